use Rattle.std.proofs.Common.{◌∙◌, ◌+◌, ◌++◌, sym, ap}
use Rattle.flat_design.specs.Pieces.{numbers_in}
use Rattle.flat_design.specs.Writes.{part_at}
use Rattle.flat_design.proofs.PieceSteps.{range_more}
use Rattle.flat_design.proofs.pieces.part_writes.Goals as goal

pub loop-i-preserved : goal.loop-i-preserved
loop-i-preserved c =
    let by = c.args.by in
    let f = part_at (numbers_in by.numbers) by.offset by.width by.stride c.args.whole.now in
    c.in_ok-push_part.ensures ∙ ap (λ ws. ws ++ f (by.numbers.least + c.loop-i.i)) c.loop-i.invariant ∙ sym (range_more f by.numbers.least c.loop-i.i)
