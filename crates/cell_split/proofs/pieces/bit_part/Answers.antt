use Rattle.std.proofs.Common.{◌≤◌, ◌+◌, ◌^◌, ◌∙◌, ◌++◌, ◌∷◌, [], List, Bool, ap, subst, arith}
use Rattle.cell_split.specs.Short.{PartIsShort}
use Rattle.cell_split.proofs.PieceCode.{length-wire, bit_of_constant, bit_of_wire}
use Rattle.cell_split.proofs.pieces.bit_part.Goals as goal

pub overflow_cast-result : goal.overflow_cast-result
overflow_cast-result c =
    let short : c.in-Wire.low + c.in-Wire.width ≤ 2 ^ 32 = subst PartIsShort c.in-Wire.is c.requires.short in
    omega (arith, short, length-wire c.args.part.now c.in-Wire.id c.in-Wire.low c.in-Wire.width c.in-Wire.is, c.requires.within)

pub overflow_add-result : goal.overflow_add-result
overflow_add-result c =
    let short : c.in-Wire.low + c.in-Wire.width ≤ 2 ^ 32 = subst PartIsShort c.in-Wire.is c.requires.short in
    omega (arith, short, length-wire c.args.part.now c.in-Wire.id c.in-Wire.low c.in-Wire.width c.in-Wire.is, c.requires.within)

pub returns-in_ok-push-in-Const : goal.returns-in_ok-push-in-Const
returns-in_ok-push-in-Const c =
    bit_of_constant c.args.part.now c.in-Const.bits c.push.new.self c.get.result.now c.args.place c.in-Const.is c.get.ensures.lookup
    (c.in_ok-push-in-Const.ensures.ok ∙ ap (λ (bits : List Bool). bits ++ c.get.result.now ∷ []) c.new-bit.ensures)

pub returns-in_ok-copied_text-in-Wire : goal.returns-in_ok-copied_text-in-Wire
returns-in_ok-copied_text-in-Wire c =
    bit_of_wire c.args.part.now c.in-Wire.id c.in_ok-copied_text-in-Wire.field-0 c.in-Wire.low c.in-Wire.width c.args.place c.in-Wire.is c.requires.within
    (c.in_ok-copied_text-in-Wire.ensures ∙ c.as_str.ensures)
