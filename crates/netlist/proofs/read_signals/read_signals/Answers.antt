use Rattle.std.proofs.Common.{◌<◌, ◌≤◌, length, List, Bool, false, sym, ap, ◌∙◌, arith}
use Rattle.std.specs.Prelude.{slice_index_or, slice_get}
use Rattle.std.proofs.lemmas.List.{length-replicate}
use Rattle.std.proofs.lemmas.Option.{get_or_from_slice_get}
use Rattle.design_ir.specs.declared.memory.Memory.{Memory}
use Rattle.netlist_laws.specs.Module.{is_read}
use Rattle.netlist.proofs.LowerReads.{stored_gives, rest_turn, rest_end, rest_begin, none_marked, memory_reads}
use Rattle.netlist.proofs.read_signals.read_signals.Goals as goal

pub loop-j-init : goal.loop-j-init
loop-j-init c =
    let ms = c.args.design.now.memories in
    let reads = c.in_ok-reads.reads.items in
    record {
      long = ap length c.in_ok-reads.ensures ∙ length-replicate c.signals.result false ∙ c.signals.ensures;
      each = λ s. rest_begin (stored_gives s) ms (slice_index_or reads s false) (ap (λ (bs : List Bool). slice_index_or bs s false) c.in_ok-reads.ensures ∙ none_marked c.signals.result s);
    }

pub mark_reads-requires : goal.mark_reads-requires
mark_reads-requires c =
    let is = ap (λ (ms : List Memory). slice_get ms c.loop-j.j) (sym c.memories-memories.ensures) ∙ c.get.ensures.lookup in
    memory_reads c.args.design.now c.loop-j.j c.get.result.now (length c.loop-j.reads.items) c.requires is c.loop-j.invariant.long

pub loop-j-preserved : goal.loop-j-preserved
loop-j-preserved c =
    let d = c.args.design.now in
    let l = c.loop-j in
    let m = c.get.result.now in
    let is = ap (λ (ms : List Memory). slice_get ms l.j) (sym c.memories-memories.ensures) ∙ c.get.ensures.lookup in
    let inside : l.j < length d.memories = omega (arith, c.loop-j-test.true, c.len-j-end.ensures, ap (λ (ms : List Memory). length ms) c.memories-memories.ensures) in
    record {
      long = c.mark_reads.ensures.long ∙ l.invariant.long;
      each = λ s.
          rest_turn (stored_gives s) d.memories l.j m (slice_index_or l.reads.items s false) (slice_index_or c.mark_reads.new.reads.items s false) (is_read d s) inside (get_or_from_slice_get d.memories l.j m m is) (c.mark_reads.ensures.each s)
          (l.invariant.each s);
    }

pub returns : goal.returns
returns c =
    let ms = c.args.design.now.memories in
    let end : length ms ≤ c.loop-j.j = omega (arith, c.loop-j-test.false, c.len-j-end.ensures, ap (λ (xs : List Memory). length xs) c.memories-memories.ensures) in
    record { long = c.loop-j.invariant.long; each = λ s. sym (rest_end (stored_gives s) ms c.loop-j.j (slice_index_or c.loop-j.reads.items s false) end) ∙ c.loop-j.invariant.each s }
