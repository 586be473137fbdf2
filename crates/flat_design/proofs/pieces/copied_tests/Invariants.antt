use Rattle.std.proofs.Common.{◌≡◌, take}
use Rattle.flat_design.proofs.pieces.copied_tests.Given as goal

abbrev pub invariant-loop-t : goal.invariant-loop-t
invariant-loop-t l = l.copy ≡ take l.t-index l.tests
