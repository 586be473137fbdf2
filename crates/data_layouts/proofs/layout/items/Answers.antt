use Rattle.std.proofs.Common.{◌≡◌, ◌*◌, ◌≤◌, ap, arith, ◌∙◌}
use Rattle.std.proofs.Math.Nat.{mul-le-mul_right}
use Rattle.std.proofs.lemmas.Grind.{common_steps}
use Rattle.std.proofs.lemmas.List.FromFn.{map-range_with_len_more}
use Rattle.shape_rules.specs.Forms.{Form}
use Rattle.data_layouts.specs.Layouts.{item_at}
use Rattle.data_layouts.proofs.layout.items.Goals as goal

pub overflow_mul-i : goal.overflow_mul-i
overflow_mul-i c =
    let same : c.item.inside.width ≡ c.args.item.width = ap (λ (f : Form). f.width) (c.item.view_is ∙ c.loop-i.invariant.same) in
    let below : c.loop-i.i * c.args.item.width ≤ c.args.length * c.args.item.width = mul-le-mul_right c.args.item.width (let h : c.loop-i.i ≤ c.args.length = omega arith in h) in
    rw same (omega (arith, below, c.requires))

pub loop-i-preserved : goal.loop-i-preserved
loop-i-preserved c =
    let more = map-range_with_len_more (item_at c.args.item) 0 c.loop-i.i c.loop-i.i (omega arith) in
    grind (arith, common_steps)
