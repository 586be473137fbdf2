use Rattle.std.proofs.Common.{◌≡◌, ◌++◌, map, take, drop}
use Rattle.module_dsl.specs.Progress.{touched}
use Rattle.module_dsl.proofs.progress.touch.Given as goal

abbrev pub invariant-loop-x : goal.invariant-loop-x
invariant-loop-x l = take l.x-index l.sides ++ map (touched l.side l.level) (drop l.x-index l.sides) ≡ map (touched l.side l.level) l.fn.sides
