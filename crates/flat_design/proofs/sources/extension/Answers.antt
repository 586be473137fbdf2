use Rattle.std.specs.Prelude.{◌≡◌, ◌+◌}
use Rattle.std.proofs.Common.{sym, ◌∙◌, ap, arith, subst}
use Rattle.shape_rules.specs.Forms.{Form}
use Rattle.design_ir.specs.Pools.{Pooled}
use Rattle.design_ir.specs.PoolRules.{IsPool}
use Rattle.design_ir.specs.Values.{form}
use Rattle.flat_design.proofs.Growing.{form_more, readable_more}
use Rattle.flat_design.proofs.Extending.{AreExtended, extended_push, inside_extension}
use Rattle.flat_design.proofs.sources.extension.Goals as goal
use Rattle.flat_design.proofs.sources.extension.Goals.{then-bit-width_of_value+in_ok-push, else-bit-width_of_value+in_ok-push-2}

pub loop-bit-preserved : goal.loop-bit-preserved
loop-bit-preserved c =
    let p : Pooled = c.args.pool.now in
    let q : Pooled = c.past_end.new.pool in
    let more = c.in_ok-past.ensures.more in
    let rules : IsPool p = c.known.ensures in
    let same = form_more p q rules more c.args.value.0 c.requires.value.there in
    let width : c.width_of_value.inside.width ≡ (form q c.args.value.0).width = ap (λ (f : Form). f.width) (c.width_of_value.view_is ∙ c.shape.ensures ∙ sym same) in
    elim c.if-bit-width_of_value.branch [
      | then-bit-width_of_value+in_ok-push w ↦
          subst (AreExtended q c.args.value c.args.from (c.loop-bit.bit + 1)) (sym (w.bits-is ∙ w.in_ok-push.ensures.ok))
          (extended_push q c.args.value c.args.from c.loop-bit.bit c.loop-bit.bits _ c.loop-bit.invariant
          (inside_extension q c.args.value c.loop-bit.bit (readable_more p q rules more c.args.value c.requires.value) (omega (arith, width, w.if-bit-width_of_value.true))))
      | else-bit-width_of_value+in_ok-push-2 w ↦
          subst (AreExtended q c.args.value c.args.from (c.loop-bit.bit + 1)) (sym (w.bits-is ∙ w.in_ok-push-2.ensures.ok))
          (extended_push q c.args.value c.args.from c.loop-bit.bit c.loop-bit.bits c.in_ok-past.past c.loop-bit.invariant
          (c.in_ok-past.ensures.past c.loop-bit.bit (omega (arith, width, ap (λ (f : Form). f.width) same, w.if-bit-width_of_value.false)) (omega (arith, c.loop-bit-test.true))))
    ]
