use Rattle.std.proofs.Common.{◌≡◌, ◌<◌, ◌∙◌, ap, sym, subst, length, arith, refl, ℕ}
use Rattle.amh_bits.specs.Patterns.{pattern, nat_bit}
use Rattle.amh_bits.specs.BitVectors.{BitVector}
use Rattle.amh_bits.proofs.BitsOf.{nat_bit_low}
use Rattle.shape_rules.specs.Forms.{Form}
use Rattle.design_ir.specs.Put.{put_place}
use Rattle.design_ir.specs.Targets.{target_bits}
use Rattle.design_ir.proofs.TargetLaws.{target_length}
use Rattle.sim_plans.specs.Reading.{IsInside}
use Rattle.delta_sim.proofs.BitTurns.{bits_turn, bits_end, place_inside, place_long}
use Rattle.delta_sim.proofs.PlaceWalks.{among_there}
use Rattle.delta_sim.proofs.write.put_bits.Goals as goal

pub shape-requires : goal.shape-requires
shape-requires c = among_there c.args.design.now.pool c.args.env.now c.args.nums.now c.args.task.now.exprs c.requires.read c.args.target.0 c.requires.among

pub loop-i-preserved : goal.loop-i-preserved
loop-i-preserved c =
    let p = c.args.design.now.pool in
    let places = target_bits p c.args.env.now c.args.target.0 in
    let i = c.loop-i.i in
    let there = among_there p c.args.env.now c.args.nums.now c.args.task.now.exprs c.requires.read c.args.target.0 c.requires.among in
    let long : length places ≡ c.width.inside.width = target_length p c.args.env.now c.requires.read.rules c.args.target there c.requires.target ∙ sym (ap (λ (f : Form). f.width) (c.width.view_is ∙ c.shape.ensures)) in
    let v : ℕ = pattern (length places) c.args.n in
    let bits : c.to_bits-bits.result.bits ≡ v = ap (λ (b : BitVector). b.bits) c.to_bits-bits.ensures ∙ ap (λ w. pattern w c.args.n) (sym long) in
    let bit : c.bit_at.result ≡ nat_bit v i = c.bit_at.ensures ∙ ap (λ b. nat_bit b i) bits in
    record {
      signals = ap length c.put_place.ensures ∙ place_long p c.place_at-place.result c.bit_at.result c.loop-i.cur ∙ c.loop-i.invariant.signals;
      bits = bits_turn p places v i c.place_at-place.result c.loop-i.cur c.put_place.new.cur _ (omega (arith, long, c.loop-i-test.true)) c.place_at-place.ensures (c.put_place.ensures ∙ ap (λ b. put_place p c.place_at-place.result b c.loop-i.cur) bit) c.loop-i.invariant.bits;
    }

pub loop-i-init : goal.loop-i-init
loop-i-init c = record { signals = c.requires.signals; bits = refl }

pub returns : goal.returns
returns c =
    let p = c.args.design.now.pool in
    let places = target_bits p c.args.env.now c.args.target.0 in
    let there = among_there p c.args.env.now c.args.nums.now c.args.task.now.exprs c.requires.read c.args.target.0 c.requires.among in
    let long : length places ≡ c.width.inside.width = target_length p c.args.env.now c.requires.read.rules c.args.target there c.requires.target ∙ sym (ap (λ (f : Form). f.width) (c.width.view_is ∙ c.shape.ensures)) in
    bits_end p places (pattern (length places) c.args.n) c.loop-i.i c.loop-i.cur _ (omega (arith, long, c.loop-i-test.false)) c.loop-i.invariant.bits

pub put_place-requires : goal.put_place-requires
put_place-requires c =
    record {
      bit = subst (λ n. n < 2) (sym c.bit_at.ensures) (nat_bit_low c.to_bits-bits.result.bits c.loop-i.i);
      inside = subst (IsInside c.args.design.now.pool.signals) (sym c.place_at-place.ensures) (place_inside c.args.design.now.pool c.args.env.now c.args.target.0 c.loop-i.i);
      signals = c.loop-i.invariant.signals;
    }
