use Rattle.std.proofs.Common.{◌*◌, ap, arith}
use Rattle.shape_rules.specs.Forms.{Form}
use Rattle.data_layouts.proofs.LayoutLaws.{laid_array}
use Rattle.data_layouts.proofs.layout.Layout.array.Goals as goal

pub invariant_of-result : goal.invariant_of-result
invariant_of-result c = laid_array c.args.item c.args.length c.in_ok-items.field-0 (c.args.length * c.item.inside.width) c.in_ok-items.ensures (ap (λ (f : Form). c.args.length * f.width) c.item.view_is) (omega arith)
