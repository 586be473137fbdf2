use Rattle.data_layouts.proofs.LayoutLaws.{laid_structure}
use Rattle.data_layouts.proofs.layout.Layout.structure.Goals as goal

pub invariant_of-result : goal.invariant_of-result
invariant_of-result c = laid_structure c.as_slice-members.result.now c.in_ok-one_above.field-0 c.in-Some.width c.in_ok-one_above.ensures c.in-Some.ensures.0 c.in-Some.ensures.1
