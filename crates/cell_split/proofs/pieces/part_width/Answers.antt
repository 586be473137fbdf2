use Rattle.cell_split.proofs.PieceCode.{length-wire}
use Rattle.cell_split.proofs.pieces.part_width.Goals as goal

pub returns-in-Wire : goal.returns-in-Wire
returns-in-Wire c = length-wire c.args.part.now c.in-Wire.id c.in-Wire.low c.in-Wire.width c.in-Wire.is
