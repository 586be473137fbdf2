use Rattle.std.proofs.Common.{◌≡◌, ◌++◌, map, take, drop}
use Rattle.module_dsl.specs.Progress.{clipped}
use Rattle.module_dsl.proofs.progress.clip.Given as goal

abbrev pub invariant-loop-x : goal.invariant-loop-x
invariant-loop-x l = take l.x-index l.sides ++ map (clipped l.level) (drop l.x-index l.sides) ≡ map (clipped l.level) l.fn.sides
