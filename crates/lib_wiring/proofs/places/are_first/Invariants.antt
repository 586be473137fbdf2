use Rattle.std.proofs.Common.{◌≡◌, true, take}
use Rattle.lib_wiring.specs.Wiring.{are_apart}
use Rattle.lib_wiring.proofs.places.are_first.Given as goal

abbrev pub invariant-loop-i : goal.invariant-loop-i
invariant-loop-i l = are_apart (take l.i l.leaves) ≡ true
