use Rattle.std.proofs.Common.{◌∙◌, ap, arith, Some}
use Rattle.design_ir.specs.declared.expr.Expr.TheVariants.{Sig, Slice, Cast}
use Rattle.design_ir.proofs.Equations.{standing}
use Rattle.bench_acts.specs.Targets.{input_bits}
use Rattle.bench_acts.proofs.TargetLaws.{slice_bits, slice_room, slice_fits, cast_bits, cast_room}
use Rattle.bench_acts.proofs.targets.input_bits.Goals as goal

pub input_of-requires : goal.input_of-requires
input_of-requires c = (standing c.args.design.now.pool c.loop-s.part.0 (Sig c.in-Sig.s) c.count.ensures.rules (c.at.ensures ∙ ap (λ x. Some x) c.in-Sig.is)).askable.parts

pub overflow_add-low : goal.overflow_add-low
overflow_add-low c =
    let at = c.at.ensures ∙ ap (λ x. Some x) c.in-Slice.is in
    let few = slice_fits c.args.design.now c.count.ensures.rules c.width.inside.width c.loop-s.part.0 c.loop-s.low c.in-Slice.a c.in-Slice.more c.in-Slice.width at c.loop-s.invariant.there c.loop-s.invariant.room in
    omega (arith, few)

pub loop-s-smaller-in-Slice : goal.loop-s-smaller-in-Slice
loop-s-smaller-in-Slice c = (standing c.args.design.now.pool c.loop-s.part.0 (Slice c.in-Slice.a c.in-Slice.more c.in-Slice.width) c.count.ensures.rules (c.at.ensures ∙ ap (λ x. Some x) c.in-Slice.is)).names.0

pub loop-s-preserved-in-Slice : goal.loop-s-preserved-in-Slice
loop-s-preserved-in-Slice c =
    let d = c.args.design.now in
    let at = c.at.ensures ∙ ap (λ x. Some x) c.in-Slice.is in
    let below = (standing d.pool c.loop-s.part.0 (Slice c.in-Slice.a c.in-Slice.more c.in-Slice.width) c.count.ensures.rules at).names.0 in
    record {
      there = omega (arith, below, c.loop-s.invariant.there);
      room = slice_room d c.count.ensures.rules c.width.inside.width c.loop-s.part.0 c.loop-s.low c.in-Slice.a c.in-Slice.more c.in-Slice.width at c.loop-s.invariant.room;
      bits = slice_bits d c.count.ensures.rules c.width.inside.width c.loop-s.part.0 c.loop-s.low c.in-Slice.a c.in-Slice.more c.in-Slice.width (input_bits d c.args.e) at c.loop-s.invariant.bits;
    }

pub loop-s-smaller : goal.loop-s-smaller
loop-s-smaller c = (standing c.args.design.now.pool c.loop-s.part.0 (Cast c.in-Cast.a c.in-Cast.signed) c.count.ensures.rules (c.at.ensures ∙ ap (λ x. Some x) c.in-Cast.is)).names.0

pub loop-s-preserved : goal.loop-s-preserved
loop-s-preserved c =
    let d = c.args.design.now in
    let at = c.at.ensures ∙ ap (λ x. Some x) c.in-Cast.is in
    let below = (standing d.pool c.loop-s.part.0 (Cast c.in-Cast.a c.in-Cast.signed) c.count.ensures.rules at).names.0 in
    record {
      there = omega (arith, below, c.loop-s.invariant.there);
      room = cast_room d c.count.ensures.rules c.width.inside.width c.loop-s.part.0 c.loop-s.low c.in-Cast.a c.in-Cast.signed at c.loop-s.invariant.room;
      bits = cast_bits d c.count.ensures.rules c.width.inside.width c.loop-s.part.0 c.loop-s.low c.in-Cast.a c.in-Cast.signed (input_bits d c.args.e) at c.loop-s.invariant.bits;
    }
