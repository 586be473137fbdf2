use Rattle.std.proofs.Common.{◌≡◌, take}
use Rattle.comb_graph.proofs.aims.copied_aims.Given as goal

abbrev pub invariant-loop-aim : goal.invariant-loop-aim
invariant-loop-aim l = l.row ≡ take l.aim-index l.aims
