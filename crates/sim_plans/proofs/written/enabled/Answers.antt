use Rattle.std.proofs.Common.{◌+◌, ◌*◌, ◌^◌, ◌∙◌, ap, arith}
use Rattle.amh_bits.specs.BitVectors.{BitVector}
use Rattle.sim_plans.proofs.Granules.{enabled_turn, wide_turn}
use Rattle.sim_plans.proofs.written.enabled.Goals as goal

pub loop-left-preserved : goal.loop-left-preserved
loop-left-preserved c =
    let g = c.args.granule in
    let low = ap (λ (b : BitVector). b.width) c.granule_bits-low.ensures in
    let wide = wide_turn g c.args.count c.loop-left.left c.loop-left.mask.width c.loop-left-test.true c.loop-left.invariant.within c.loop-left.invariant.width in
    let bits = enabled_turn g c.args.count c.loop-left.left c.granule_bits-low.result.bits c.loop-left.mask.bits c.args.enable c.loop-left-test.true c.loop-left.invariant.within (ap (λ (b : BitVector). b.bits) c.granule_bits-low.ensures) c.loop-left.invariant.bits in
    record {
      within = omega (arith, c.loop-left.invariant.within);
      width = ap (λ (b : BitVector). b.width) c.in-Ok.ensures.1 ∙ ap (λ n. n + c.loop-left.mask.width) low ∙ wide;
      bits = ap (λ (b : BitVector). b.bits) c.in-Ok.ensures.1 ∙ ap (λ n. c.loop-left.mask.bits * 2 ^ n + c.granule_bits-low.result.bits) low ∙ bits;
    }
