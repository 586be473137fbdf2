use Rattle.std.proofs.Common.{◌≡◌, ◌∙◌, ◌<◌, ◌+◌, length, Some, slice_get, refl, sym, ap, subst}
use Rattle.std.specs.List.{AllByRecursion}
use Rattle.std.proofs.lemmas.Option.{slice_get_read}
use Rattle.design_ir.specs.declared.memory.MemRead.{MemRead}
use Rattle.fragment_walks.specs.Numbers.{lowered}
use Rattle.fragment_walks.proofs.NumberLaws.{length_lowered}
use Rattle.clock_domains.proofs.DataLaws.{clocked_inside, clocked_words, data_at, memory_turn}
use Rattle.clock_domains.proofs.read_data.number_memories.Goals as goal

pub number_reads-requires : goal.number_reads-requires
number_reads-requires c =
    let ms = c.args.memories.now in
    let i = c.loop-number.number in
    let m = c.index-memories-number.result in
    let cur = c.loop-number.sites.items in
    let at : slice_get ms i ≡ Some m = slice_get_read ms (length ms) i m refl c.loop-number-test.true c.index-memories-number.is in
    subst (AllByRecursion (λ (r : MemRead). r.word.0 < length cur)) (sym c.as_slice.ensures) (subst (λ n. AllByRecursion (λ (r : MemRead). r.word.0 < n) m.reads) (sym c.loop-number.invariant.size) (data_at (λ s. s < 16384) ms i m c.requires.there at))

pub loop-number-preserved : goal.loop-number-preserved
loop-number-preserved c =
    let ms = c.args.memories.now in
    let i = c.loop-number.number in
    let m = c.index-memories-number.result in
    let n = c.args.processes in
    let cur = c.loop-number.sites.items in
    let new = c.number_reads.new.sites.items in
    let at : slice_get ms i ≡ Some m = slice_get_read ms (length ms) i m refl c.loop-number-test.true c.index-memories-number.is in
    let is : new ≡ lowered (clocked_words m.reads) (n + i) cur = c.number_reads.ensures ∙ ap (λ rs. lowered (clocked_words rs) (n + i) cur) c.as_slice.ensures in
    let inside = clocked_inside (λ s. s < length cur) m.reads (subst (λ n. AllByRecursion (λ (r : MemRead). r.word.0 < n) m.reads) (sym c.loop-number.invariant.size) (data_at (λ s. s < 16384) ms i m c.requires.there at)) in
    record {
      size = ap length is ∙ length_lowered (clocked_words m.reads) (n + i) cur ∙ c.loop-number.invariant.size;
      each = λ s. memory_turn n ms i m c.args.sites.now.items cur new s at inside (c.loop-number.invariant.each s) is;
    }
