use Rattle.std.proofs.Common.{◌≡◌, ◌-◌, ◌+◌, ◌*◌, ◌^◌, suc, arith, pos, slice_index_or, ap, ◌∙◌}
use Rattle.amh_bits.specs.Patterns.{pattern}
use Rattle.shape_rules.specs.Forms.{Form}
use Rattle.amh_bits.specs.BitVectors.{BitVector}
use Rattle.design_ir.specs.Values.{form}
use Rattle.sim_plans.proofs.Items.{below_index}
use Rattle.sim_plans.proofs.Joined.{total_dropped, total_turn, joined_turn}
use Rattle.sim_plans.proofs.expressions.joined.Goals as goal

pub at-requires : goal.at-requires
at-requires c =
    below_index _ c.args.items.now _ _ _ c.requires.there c.as_slice-all.ensures (omega (arith, c.loop-left.invariant.within, c.loop-left-test.true))

pub shape-requires : goal.shape-requires
shape-requires c =
    let h = below_index _ c.args.items.now c.as_slice-all.result.now (c.loop-left.left - 1) (record { 0 = 0 }) c.requires.there c.as_slice-all.ensures (omega (arith, c.loop-left.invariant.within, c.loop-left-test.true)) in
    omega (arith, h, c.requires.pool)

pub unreachable-requires : goal.unreachable-requires
unreachable-requires c =
    let next : suc (c.loop-left.left - 1) ≡ c.loop-left.left = omega (arith, c.loop-left-test.true) in
    let w = total_turn (form c.args.design.now.pool) c.args.items.now c.as_slice-all.result.now (c.loop-left.left - 1) c.loop-left.left c.loop-left.bits.width (record { 0 = 0 }) c.shape.result c.as_slice-all.ensures next c.loop-left.invariant.within c.shape.ensures c.loop-left.invariant.width in
    let shape = ap (λ (f : Form). f.width) c.to_bits.view_is in
    let low = ap (λ (b : BitVector). b.width) c.to_bits-low.ensures in
    c.in-Err.ensures (omega (arith, w, shape, low, total_dropped (form c.args.design.now.pool) (c.loop-left.left - 1) c.args.items.now, c.requires.narrow))

pub loop-left-preserved : goal.loop-left-preserved
loop-left-preserved c =
    let next : suc (c.loop-left.left - 1) ≡ c.loop-left.left = omega (arith, c.loop-left-test.true) in
    let w = total_turn (form c.args.design.now.pool) c.args.items.now c.as_slice-all.result.now (c.loop-left.left - 1) c.loop-left.left c.loop-left.bits.width (record { 0 = 0 }) c.shape.result c.as_slice-all.ensures next c.loop-left.invariant.within c.shape.ensures c.loop-left.invariant.width in
    let shape = ap (λ (f : Form). f.width) c.to_bits.view_is in
    let low = ap (λ (b : BitVector). b.width) c.to_bits-low.ensures in
    let bits = joined_turn (form c.args.design.now.pool) (λ k. slice_index_or c.args.nums.now k (pos 0)) c.args.items.now c.as_slice-all.result.now (c.loop-left.left - 1) c.loop-left.left c.loop-left.bits.bits c.to_bits-low.result.bits (record { 0 = 0 }) c.shape.result c.at.result c.as_slice-all.ensures next c.loop-left.invariant.within c.shape.ensures c.at.ensures (ap (λ (b : BitVector). b.bits) c.to_bits-low.ensures ∙ ap (λ w. pattern w c.at.result) shape) c.loop-left.invariant.bits in
    record {
      within = omega (arith, c.loop-left.invariant.within);
      width = ap (λ (b : BitVector). b.width) c.in-Ok.ensures.1 ∙ omega (arith, w, shape, low);
      bits = ap (λ (b : BitVector). b.bits) c.in-Ok.ensures.1 ∙ ap (λ w. c.loop-left.bits.bits * 2 ^ w + c.to_bits-low.result.bits) (low ∙ shape) ∙ bits;
    }
