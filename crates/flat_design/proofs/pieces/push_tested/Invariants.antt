use Rattle.std.proofs.Common.{◌≡◌, ◌++◌, map, take}
use Rattle.flat_design.specs.Pieces.{numbers_in}
use Rattle.flat_design.specs.Writes.{tested}
use Rattle.flat_design.proofs.pieces.push_tested.Given as goal

abbrev pub invariant-loop-w : goal.invariant-loop-w
invariant-loop-w l = l.list ≡ l.fn.list ++ map (tested (numbers_in l.numbers) l.test) (take l.w-index l.own)
