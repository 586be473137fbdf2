use Rattle.data_layouts.proofs.LayoutLaws.{laid_union}
use Rattle.data_layouts.proofs.layout.Layout.union.Goals as goal

pub invariant_of-result : goal.invariant_of-result
invariant_of-result c = laid_union c.as_slice-members.result.now c.in_ok-at_zero.field-0 c.widest.result c.in_ok-at_zero.ensures c.widest.ensures.value c.widest.ensures.most
