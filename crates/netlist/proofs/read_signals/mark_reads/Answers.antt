use Rattle.std.proofs.Common.{length, false, true, sym, ◌∙◌, arith}
use Rattle.std.specs.Prelude.{slice_index_or, slice_set}
use Rattle.std.proofs.lemmas.List.{length-set}
use Rattle.std.proofs.lemmas.Option.{get_or_from_slice_get}
use Rattle.netlist.proofs.LowerReads.{gives, rest_or, rest_turn, one_mark, port_marked, marked_away, marked_there}
use Rattle.netlist.proofs.read_signals.mark_reads.Goals as goal

pub index_mut-requires : goal.index_mut-requires
index_mut-requires c =
    let inside = port_marked c.args.m.now.reads c.loop-k.k c.get.result.now (length c.args.reads.now.items) c.requires c.get.ensures.lookup in
    omega (arith, inside, c.loop-k.invariant.long)

pub loop-k-preserved : goal.loop-k-preserved
loop-k-preserved c =
    let rs = c.args.m.now.reads in
    let r = c.get.result.now in
    let l = c.loop-k in
    let reads = l.reads.items in
    let inside = port_marked rs l.k r (length c.args.reads.now.items) c.requires c.get.ensures.lookup in
    record {
      long = length-set reads r.word.0 true ∙ l.invariant.long;
      each = λ s.
          rest_turn (gives s) rs l.k r (slice_index_or reads s false) (slice_index_or (slice_set reads r.word.0 true) s false) (rest_or (gives s) rs (slice_index_or c.args.reads.now.items s false))
          (omega (arith, c.loop-k-test.true, c.len-k-end.ensures)) (get_or_from_slice_get rs l.k r r c.get.ensures.lookup) (one_mark reads r.word.0 s (omega (arith, inside, l.invariant.long))) (l.invariant.each s);
    }

pub returns-then-not-is_there : goal.returns-then-not-is_there
returns-then-not-is_there c = marked_away c.args.m.now c.args.reads.now.items (sym c.is_there.ensures ∙ c.if-not-is_there.true)

pub returns : goal.returns
returns c =
    marked_there c.args.m.now c.args.reads.now.items c.loop-k.reads.items c.loop-k.k (sym c.is_there.ensures ∙ c.if-not-is_there.false)
    (omega (arith, c.loop-k-test.false, c.len-k-end.ensures)) c.loop-k.invariant.long c.loop-k.invariant.each
