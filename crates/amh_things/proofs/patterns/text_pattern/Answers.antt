use Rattle.std.proofs.Common.{◌+◌, ◌*◌, if◌then◌else◌, sym, ap, ◌∙◌, not, arith}
use Rattle.amh_things.specs.Patterns.{signs}
use Rattle.amh_things.proofs.PatternLaws.{blank_passed, sign_taken}
use Rattle.amh_things.proofs.patterns.text_pattern.Goals as goal
use Rattle.amh_things.proofs.patterns.text_pattern.Goals.{then-not-is_blank+else-not-is_sign+else-count-width, else-not-is_blank}

pub loop-c-preserved : goal.loop-c-preserved
loop-c-preserved c =
    elim c.if-not-is_blank.branch [
      | then-not-is_blank+else-not-is_sign+else-count-width w ↦ (
        sign_taken (signs c.args.text.now) c.args.text.now c.loop-c.c-index _ _ _ _ _ _ c.loop-c-test.true
            (sym c.is_blank.ensures ∙ w.if-not-is_blank.true) (sym w.is_sign.ensures ∙ w.if-not-is_sign.false) w.count-is
            (w.mask-is ∙ w.with_bit-mask.ensures.value ∙ ap (λ b. 2 * c.loop-c.mask + (if not b then 1 else 0)) w.is_any_sign.ensures)
            (w.bits-is ∙ w.with_bit-bits.ensures.value ∙ ap (λ b. 2 * c.loop-c.bits + (if b then 1 else 0)) w.is_one_sign.ensures)
            c.loop-c.invariant.0,
        omega arith,
      )
      | else-not-is_blank w ↦ (
        blank_passed (signs c.args.text.now) c.args.text.now c.loop-c.c-index _ _ _ _ _ _ c.loop-c-test.true
            (sym c.is_blank.ensures ∙ w.if-not-is_blank.false) w.count-is w.mask-is w.bits-is c.loop-c.invariant.0,
        omega arith,
      )
    ]
