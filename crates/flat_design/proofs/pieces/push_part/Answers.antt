use Rattle.std.proofs.Common.{◌∙◌, ◌++◌, sym, ap, append-nil}
use Rattle.flat_design.specs.Pieces.{numbers_in}
use Rattle.flat_design.proofs.PieceSteps.{part_past}
use Rattle.flat_design.proofs.pieces.push_part.Goals as goal

pub returns-then-number-by : goal.returns-then-number-by
returns-then-number-by c =
    let by = c.args.by in
    sym (ap (λ ws. c.args.list.now ++ ws) (part_past (numbers_in by.numbers) by.offset by.wide by.width by.stride c.args.whole.now c.args.number c.requires.stride c.if-number-by.true c.requires.within) ∙ append-nil c.args.list.now)
