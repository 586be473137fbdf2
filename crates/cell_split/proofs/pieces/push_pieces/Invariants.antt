use Rattle.std.proofs.Common.{◌≡◌, ◌+◌, ◌++◌, length, map}
use Rattle.std.specs.List.{range_with_len}
use Rattle.cell_split.specs.Pieces.{piece}
use Rattle.cell_split.proofs.pieces.push_pieces.Given as goal

abbrev pub invariant-loop-place : goal.invariant-loop-place
invariant-loop-place l = l.cells ≡ l.initial.cells ++ map (λ k. piece (l.first + length l.initial.cells + k) l.cell k) (range_with_len 0 l.place)
