use Rattle.std.specs.Prelude.{◌≡◌, ◌-◌, false}
use Rattle.std.proofs.Common.{sym, ◌∙◌, ap, arith}
use Rattle.shape_rules.specs.Forms.{Form}
use Rattle.design_ir.specs.Values.{form}
use Rattle.flat_design.proofs.Growing.{form_more, readable_more}
use Rattle.flat_design.proofs.Extending.{signed_some, signed_extension, zero_extension}
use Rattle.flat_design.proofs.sources.past_end.Goals as goal
use Rattle.flat_design.proofs.sources.past_end.Goals.{then-shape-via-then-shape, then-shape-via-else-shape+then-to-shape}

pub returns-then-shape-clause-past : goal.returns-then-shape-clause-past
returns-then-shape-clause-past c =
    λ k far below. let shape = c.shape.view_is ∙ c.shape-shape.ensures in
    let width = ap (λ (f : Form). f.width) shape in
    elim c.then-shape.branch [
      | then-shape-via-then-shape w ↦
          let some = signed_some c.shape.inside.width c.shape.inside.signed c.shape.invariant w.if-shape.true in
          signed_extension c.args.pool.now c.args.value k (c.max.result - 1) c.known.ensures c.requires.value (sym (ap (λ (f : Form). f.signed) shape) ∙ w.if-shape.true) (omega (arith, some, width)) (omega (arith, some, width, c.max.ensures)) far
      | then-shape-via-else-shape+then-to-shape w ↦ absurd (omega (arith, w.if-to-shape.true, width, far, below))
    ]

pub returns-clause-past : goal.returns-clause-past
returns-clause-past c =
    λ k far below.
    let same = form_more c.args.pool.now c.constant.new.pool c.known.ensures c.in_ok-expr.ensures.more c.args.value.0 c.requires.value.there in
    let plain : (form c.constant.new.pool c.args.value.0).signed ≡ false = ap (λ (f : Form). f.signed) (same ∙ sym (c.shape.view_is ∙ c.shape-shape.ensures)) ∙ c.if-shape.false in
    zero_extension c.constant.new.pool c.args.value c.in_ok-expr.expr k c.in_ok-expr.ensures.rules
    (readable_more c.args.pool.now c.constant.new.pool c.known.ensures c.in_ok-expr.ensures.more c.args.value c.requires.value) plain
    (omega (arith, far, ap (λ (f : Form). f.width) same)) c.in_ok-expr.ensures.added
