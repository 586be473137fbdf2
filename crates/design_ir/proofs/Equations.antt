-- The shape and the integer of each expression of a pool, by those of the expressions that it names.
use Rattle.std.specs.Prelude.{◌≡◌, refl, ℕ, zero, suc, ◌<◌, ◌≤◌, List, [], ◌∷◌, ◌++◌, length, slice_get, slice_index_or, ℤ, pos, Some, None}
use Rattle.std.proofs.Common.{sym, ◌∙◌, ap, arith, get_or}
use Rattle.std.proofs.Math.ListN.{get_or-append}
use Rattle.shape_rules.specs.Forms.{Form, unsigned}
use Rattle.design_ir.specs.declared.ids.ExprId.{ExprId}
use Rattle.design_ir.specs.declared.signal.Sig.{Sig}
use Rattle.design_ir.specs.declared.expr.Expr.{Expr}
use Rattle.design_ir.specs.Named.{named, AllBelow}
use Rattle.design_ir.specs.Pools.{Pooled, answers, answer}
use Rattle.design_ir.specs.PoolRules.{IsExpr, AreExprs, IsPool, IsAskable, IsFormed, bad_operand, greatest_width, shape_stop}
use Rattle.design_ir.specs.Values.{form, form_step, num, value_step}
use Rattle.design_ir.proofs.Answers.{answer_is, answers_append, answers_begin, LooksBelow}
use Rattle.design_ir.proofs.Congruence.{form_same, range_same, operand_same, width_same, same_below, AreSame}
use Rattle.design_ir.proofs.Looks.{value_looks}

-- what stands before and after an element
pub split_at : {A : Type 0} (xs : List A) (k : ℕ) (x : A) → slice_get xs k ≡ Some x → (before : List A) × (after : List A) × (xs ≡ before ++ x ∷ after) × (length before ≡ k)
split_at [] k x e = cc
split_at (y ∷ xs) zero x e = let f : y ≡ x = cc in ([], xs, ap (λ z. z ∷ xs) f, refl)
split_at (y ∷ xs) (suc k) x e =
    let r = split_at xs k x e in (y ∷ r.0, r.1, ap (λ zs. y ∷ zs) r.2, ap suc r.3)

pub answer_at : {A : Type 0} (d : A) (step : (ℕ → A) → Expr → A) (es : List Expr) (k : ℕ) (e : Expr) → slice_get es k ≡ Some e → LooksBelow step k e → answer d step es k ≡ step (answer d step es) e
answer_at d step es k e is looks =
    let r = split_at es k e is in
    let law : answer d step (r.0 ++ e ∷ r.1) (length r.0) ≡ step (answer d step (r.0 ++ e ∷ r.1)) e = answer_is d step r.0 e r.1 (rw r.3 looks) in
    rw (← r.2, r.3) at law

-- ---- each expression of a pool keeps to the rules over those before it

exprs_at : (sigs : List Sig) (known : List Form) (before : List Expr) (e : Expr) (after : List Expr) → AreExprs sigs known (before ++ e ∷ after) → IsExpr sigs (answers (unsigned 0) (form_step sigs) known before) e
exprs_at sigs known [] e after h = h.0
exprs_at sigs known (b ∷ before) e after h = exprs_at sigs (known ++ form_step sigs (λ k. slice_index_or known k (unsigned 0)) b ∷ []) before e after h.1

-- the answers for the first expressions are those of the whole pool
prefix_same : {A : Type 0} (d : A) (step : (ℕ → A) → Expr → A) (before after : List Expr) (j : ℕ) → j < length before → slice_index_or (answers d step [] before) j d ≡ answer d step (before ++ after) j
prefix_same d step before after j h =
    let known = answers_begin d step [] before in
    let r = answers_begin d step (answers d step [] before) after in
    let more = answers_append d step [] before after ∙ r.1 in
    sym (ap (λ x. get_or x j d) more ∙ get_or-append (answers d step [] before) r.0 d j (omega (arith, h, ap length known.1, known.2)))

-- an expression of a pool, by the shapes of the whole pool
pub record IsStanding (p : Pooled) (k : ℕ) (e : Expr) : Type 0 where
  pub names : AllBelow k (named e)
  pub formed : IsFormed e
  pub askable : IsAskable p e
  pub accepted : shape_stop (bad_operand (form p) e) (greatest_width p.signals (form p) e) ≡ None

below_more : (k n : ℕ) (es : List ExprId) → k ≤ n → AllBelow k es → AllBelow n es
below_more k n [] le h = tt
below_more k n (e ∷ es) le h = (omega (arith, h.0, le), below_more k n es le h.1)

pub place_below : {A : Type 0} (xs : List A) (k : ℕ) (x : A) → slice_get xs k ≡ Some x → k < length xs
place_below [] k x e = cc
place_below (y ∷ xs) zero x e = omega arith
place_below (y ∷ xs) (suc k) x e = omega (arith, place_below xs k x e)

pub standing : (p : Pooled) (k : ℕ) (e : Expr) → IsPool p → slice_get p.exprs k ≡ Some e → IsStanding p k e
unfolding form
standing p k e h is =
    let r = split_at p.exprs k e is in
    let before : List Expr = r.0 in
    let known : List Form = answers (unsigned 0) (form_step p.signals) [] before in
    let x : IsExpr p.signals known e = exprs_at p.signals [] before e r.1 (rw r.2 at h.exprs) in
    let begun = answers_begin (unsigned 0) (form_step p.signals) [] before in
    let count : length known ≡ k = ap length begun.1 ∙ begun.2 ∙ r.3 in
    let names : AllBelow k (named e) = rw count at x.names in
    let agree : (j : ℕ) → j < k → slice_index_or known j (unsigned 0) ≡ answer (unsigned 0) (form_step p.signals) p.exprs j =
    λ j below. prefix_same (unsigned 0) (form_step p.signals) before (e ∷ r.1) j (omega (arith, below, r.3)) ∙ ap (λ es. answer (unsigned 0) (form_step p.signals) es j) (sym r.2) in
    let same : AreSame (λ j. slice_index_or known j (unsigned 0)) (form p) (named e) = same_below (λ j. slice_index_or known j (unsigned 0)) (form p) k (named e) agree names in
    record {
      names = names;
      formed = x.formed;
      askable = record { names = below_more k (length p.exprs) (named e) (omega (arith, place_below p.exprs k e is)) names; parts = range_same (λ j. slice_index_or known j (unsigned 0)) (form p) p.signals e same x.parts };
      accepted = ap (λ b. shape_stop b (greatest_width p.signals (form p) e)) (sym (operand_same (λ j. slice_index_or known j (unsigned 0)) (form p) e same)) ∙ ap (shape_stop (bad_operand (λ j. slice_index_or known j (unsigned 0)) e)) (sym (width_same (λ j. slice_index_or known j (unsigned 0)) (form p) p.signals e same)) ∙ x.accepted;
    }

-- ---- the equations

pub form_is : (p : Pooled) (k : ℕ) (e : Expr) → IsPool p → slice_get p.exprs k ≡ Some e → form p k ≡ form_step p.signals (form p) e
unfolding form
form_is p k e h is =
    let names = (standing p k e h is).names in
    answer_at (unsigned 0) (form_step p.signals) p.exprs k e is (λ f g same. form_same f g p.signals e (same_below f g k (named e) same names))

pub num_is : (p : Pooled) (env : List ℤ) (k : ℕ) (e : Expr) → IsPool p → slice_get p.exprs k ≡ Some e → num p env k ≡ value_step (form p) env (num p env) e
unfolding num
num_is p env k e h is = answer_at (pos 0) (value_step (form p) env) p.exprs k e is (value_looks (form p) env k e (standing p k e h is).names)
