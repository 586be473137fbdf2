use Rattle.std.proofs.Common.{◌≡◌, take}
use Rattle.std.specs.List.{filter_map}
use Rattle.flat_design.specs.Writes.{cut}
use Rattle.flat_design.proofs.pieces.cut_writes.Given as goal

abbrev pub invariant-loop-w : goal.invariant-loop-w
invariant-loop-w l = l.list ≡ filter_map (cut l.low l.width) (take l.w-index l.whole)
