use Rattle.std.proofs.Common.{sym, ◌∙◌}
use Rattle.data_layouts.proofs.Fits.{enumerated}
use Rattle.data_layouts.proofs.enumeration.EnumShape.new.Goals as goal

pub invariant_of-result : goal.invariant_of-result
invariant_of-result c =
    enumerated c.args.shape c.as_slice-2.result.now c.in_ok-all_copied.field-0 (sym c.is_any_outside.ensures ∙ c.if-is_any_outside.false) (c.in_ok-all_copied.ensures ∙ c.as_slice-3.ensures ∙ sym c.as_slice-2.ensures)
