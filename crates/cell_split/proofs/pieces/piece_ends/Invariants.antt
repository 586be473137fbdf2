use Rattle.std.proofs.Common.{◌≡◌, take, map}
use Rattle.cell_split.specs.Pieces.{piece_end}
use Rattle.cell_split.proofs.pieces.piece_ends.Given as goal

abbrev pub invariant-loop-end : goal.invariant-loop-end
invariant-loop-end l = l.pieces ≡ map (piece_end l.place) (take l.end-index l.end-items)
