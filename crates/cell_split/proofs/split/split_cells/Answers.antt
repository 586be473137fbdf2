use Rattle.std.proofs.Common.{arith}
use Rattle.cell_split.proofs.SplitCode.{cells_more}
use Rattle.cell_split.proofs.split.split_cells.Goals as goal

pub loop-k-preserved : goal.loop-k-preserved
loop-k-preserved c =
    cells_more c.args.first c.args.marks.now c.args.rtl.now.cells c.loop-k.cells c.push_split.new.cells c.loop-k.k c.get.result.now (omega (arith, c.loop-k-test.true)) c.requires.marks c.get.ensures.lookup c.loop-k.invariant c.in_ok-push_split.ensures
