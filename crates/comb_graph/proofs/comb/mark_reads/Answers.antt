use Rattle.std.proofs.Common.{◌≡◌, ◌<◌, length, Some, slice_get, refl, arith}
use Rattle.std.proofs.lemmas.Option.{slice_get_read}
use Rattle.design_ir.specs.declared.memory.MemRead.{MemRead}
use Rattle.comb_graph.specs.CombTargets.{comb_word}
use Rattle.digraph.proofs.Members.{all_at}
use Rattle.comb_graph.proofs.CombMarks.{marked_turn}
use Rattle.comb_graph.proofs.comb.mark_reads.Goals as goal

pub mark_read-requires : goal.mark_read-requires
mark_read-requires c =
    let reads = c.args.reads.now in
    let at : slice_get reads c.loop-read.read-index ≡ Some c.read-item.result = slice_get_read reads (length reads) c.loop-read.read-index c.read-item.result refl c.loop-read-test.true c.read-item.is in
    omega (arith, all_at (λ (r : MemRead). r.word.0 < length c.args.signals.now.items) reads c.loop-read.read-index c.read-item.result c.requires at, c.loop-read.invariant.size)

pub loop-read-preserved : goal.loop-read-preserved
loop-read-preserved c =
    let reads = c.args.reads.now in
    let i = c.loop-read.read-index in
    let at : slice_get reads i ≡ Some c.read-item.result = slice_get_read reads (length reads) i c.read-item.result refl c.loop-read-test.true c.read-item.is in
    marked_turn comb_word reads i c.read-item.result c.args.signals.now.items c.loop-read.signals.items c.mark_read.new.signals.items at c.loop-read.invariant c.mark_read.ensures
