use Rattle.std.proofs.Common.{◌≡◌}
use Rattle.std.specs.List.{flat_map, range_with_len}
use Rattle.flat_design.specs.Pieces.{numbers_in}
use Rattle.flat_design.specs.Writes.{part_at}
use Rattle.flat_design.proofs.pieces.part_writes.Given as goal

abbrev pub invariant-loop-i : goal.invariant-loop-i
invariant-loop-i l = l.list ≡ flat_map (part_at (numbers_in l.by.numbers) l.by.offset l.by.width l.by.stride l.whole) (range_with_len l.by.numbers.least l.i)
