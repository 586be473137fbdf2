use Rattle.std.proofs.Common.{◌≡◌, ◌++◌, map, take}
use Rattle.flat_design.specs.Writes.{raised}
use Rattle.flat_design.proofs.pieces.push_raised.Given as goal

abbrev pub invariant-loop-w : goal.invariant-loop-w
invariant-loop-w l = l.list ≡ l.fn.list ++ map (raised l.by) (take l.w-index l.own)
