use Rattle.std.proofs.Common.{◌≡◌, true, take}
use Rattle.lib_wiring.specs.Wiring.{have_paths}
use Rattle.lib_wiring.proofs.wires.have_paths.Given as goal

abbrev pub invariant-loop-leaf : goal.invariant-loop-leaf
invariant-loop-leaf l = have_paths l.first (take l.leaf-index l.second) ≡ true
