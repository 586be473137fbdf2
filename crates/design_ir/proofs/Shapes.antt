-- The shapes that a pool keeps.
use Rattle.std.proofs.Common.{◌≡◌, ℕ, List, [], ◌∷◌, ◌++◌, length, get_or, sym, ap, ◌∙◌}
use Rattle.shape_rules.specs.Forms.{Form, unsigned}
use Rattle.design_ir.specs.declared.expr.Expr.{Expr}
use Rattle.design_ir.specs.declared.signal.Sig.{Sig}
use Rattle.design_ir.specs.Pools.{Pooled, answers}
use Rattle.design_ir.specs.Values.{form, form_step}
use Rattle.design_ir.proofs.Answers.{answers_append, answers_begin}

abbrev pub AreShapes : List Sig → List Expr → List Form → Type 0
AreShapes sigs es shapes = shapes ≡ answers (unsigned 0) (form_step sigs) [] es

pub shapes_length : (sigs : List Sig) (es : List Expr) (shapes : List Form) → AreShapes sigs es shapes → length shapes ≡ length es
shapes_length sigs es shapes h = let r = answers_begin (unsigned 0) (form_step sigs) [] es in ap length (h ∙ r.1) ∙ r.2

pub shape_is : (p : Pooled) (shapes : List Form) (k : ℕ) → AreShapes p.signals p.exprs shapes → get_or shapes k (unsigned 0) ≡ form p k
unfolding form
shape_is p shapes k h = ap (λ x. get_or x k (unsigned 0)) h

pub one_shape_more : (p : Pooled) (shapes : List Form) (e : Expr) (s : Form) → AreShapes p.signals p.exprs shapes → s ≡ form_step p.signals (form p) e → AreShapes p.signals (p.exprs ++ e ∷ []) (shapes ++ s ∷ [])
unfolding form
one_shape_more p shapes e s h is =
    ap (λ x. x ++ s ∷ []) h
    ∙ ap (λ x. answers (unsigned 0) (form_step p.signals) [] p.exprs ++ x ∷ []) is
    ∙ sym (answers_append (unsigned 0) (form_step p.signals) [] p.exprs (e ∷ []))
