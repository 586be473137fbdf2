use Rattle.std.proofs.Common.{◌≡◌, take, map}
use Rattle.cell_split.specs.Pieces.{piece_parameter}
use Rattle.cell_split.proofs.pieces.piece_parameters.Given as goal

abbrev pub invariant-loop-parameter : goal.invariant-loop-parameter
invariant-loop-parameter l = l.pieces ≡ map piece_parameter (take l.parameter-index l.parameter-items)
