-- Pools that grow at their ends.
use Rattle.std.specs.Prelude.{◌≡◌, ℕ, zero, suc, ◌<◌, false, List, [], ◌∷◌, ◌++◌, length, get_or, slice_index_or, slice_get, Some}
use Rattle.std.proofs.Common.{◌∙◌, ap, arith, subst}
use Rattle.std.proofs.lemmas.List.{length-append}
use Rattle.std.proofs.Math.ListN.{get_or-append}
use Rattle.shape_rules.specs.Forms.{Form, unsigned}
use Rattle.design_ir.specs.declared.ids.SigId.{SigId}
use Rattle.design_ir.specs.declared.signal.Sig.{Sig}
use Rattle.design_ir.specs.PoolRules.{AreExprs, IsInRange}
use Rattle.design_ir.specs.Values.{form_step}
use Rattle.design_ir.specs.declared.expr.Expr.{Expr}
use Rattle.design_ir.specs.declared.expr.Expr.TheVariants as expr
use Rattle.design_ir.specs.Pools.{Pooled, answers, answer}
use Rattle.design_ir.specs.Targets.{is_target, target_test, is_open_target, open_target_test}
use Rattle.design_ir.proofs.Answers.{answers_append, answers_begin}

-- ---- answers for the expressions that were there

pub answer_stays : {A : Type 0} (d : A) (step : (ℕ → A) → Expr → A) (es more : List Expr) (k : ℕ) → k < length es → answer d step (es ++ more) k ≡ answer d step es k
answer_stays {A} d step es more k h =
    let known : List A = answers d step [] es in
    let r = answers_begin d step [] es in
    let s = answers_begin d step known more in
    let same : length known ≡ length es = ap length r.1 ∙ r.2 in
    ap (λ x. get_or x k d) (answers_append d step [] es more ∙ s.1)
    ∙ get_or-append known s.0 d k (omega (arith, h, same))

-- a pool with more behind what it had
pub record IsGrown (p q : Pooled) : Type 0 where
  pub more : List Expr
  pub exprs : q.exprs ≡ p.exprs ++ more

pub target_stays : (p q : Pooled) (k : ℕ) → IsGrown p q → k < length p.exprs → is_target q k ≡ is_target p k
unfolding is_target
target_stays p q k g h = ap (λ es. answer false target_test es k) g.exprs ∙ answer_stays false target_test p.exprs g.more k h

pub open_target_stays : (p q : Pooled) (k : ℕ) → IsGrown p q → k < length p.exprs → is_open_target q k ≡ is_open_target p k
unfolding is_open_target
open_target_stays p q k g h = ap (λ es. answer false open_target_test es k) g.exprs ∙ answer_stays false open_target_test p.exprs g.more k h

pub there_stays : (p q : Pooled) (k : ℕ) → IsGrown p q → k < length p.exprs → k < length q.exprs
there_stays p q k g h = omega (arith, h, ap length g.exprs, length-append p.exprs g.more)

-- ---- signals

-- the signal that an expression of a pool is stands there
pub signal_there : (sigs : List Sig) (known : List Form) (es : List Expr) (k : ℕ) (x : SigId) → AreExprs sigs known es → slice_get es k ≡ Some (expr.Sig x) → x.0 < length sigs
signal_there sigs known [] k x h is = absurd cc
signal_there sigs known (e ∷ es) zero x h is =
    let same : e ≡ expr.Sig x = cc in
    let P : Expr → Type 0 = IsInRange sigs (λ j. slice_index_or known j (unsigned 0)) in
    subst P same h.0.parts
signal_there sigs known (e ∷ es) (suc k) x h is = signal_there sigs (known ++ form_step sigs (λ j. slice_index_or known j (unsigned 0)) e ∷ []) es k x h.1 is
