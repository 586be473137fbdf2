use Rattle.std.proofs.Common.{◌≡◌, drop}
use Rattle.module_dsl.specs.Progress.{kept_reach}
use Rattle.module_dsl.proofs.progress.reach_of.Given as goal

abbrev pub invariant-loop-x : goal.invariant-loop-x
invariant-loop-x l = kept_reach l.side (drop l.x-index l.sides) ≡ kept_reach l.side l.sides
