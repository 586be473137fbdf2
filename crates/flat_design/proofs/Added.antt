-- What an added expression is.
use Rattle.std.specs.Prelude.{◌≡◌, refl, ℕ, Bool, false, List, [], ◌∷◌, ◌++◌, length, slice_get, ℤ, Some}
use Rattle.std.specs.List.{list_any}
use Rattle.std.proofs.Common.{◌∙◌, ap}
use Rattle.design_ir.specs.declared.ids.ExprId.{ExprId}
use Rattle.design_ir.specs.declared.expr.Expr.{Expr}
use Rattle.design_ir.specs.declared.expr.Expr.TheVariants.{Reset}
use Rattle.design_ir.specs.Named.{named, AllBelow}
use Rattle.design_ir.specs.Pools.{Pooled}
use Rattle.design_ir.specs.PoolRules.{IsPool, expr_added}
use Rattle.design_ir.specs.Values.{form, form_step, num, value_step}
use Rattle.design_ir.specs.Needed.{needed, bits_step}
use Rattle.design_ir.specs.Designs.{holds_reset, reset_test}
use Rattle.design_ir.proofs.Answers.{LooksBelow}
use Rattle.design_ir.proofs.Congruence.{AreSame, same_below}
use Rattle.design_ir.proofs.Equations.{answer_at, form_is, num_is, place_below}
use Rattle.comb_graph.proofs.NeededBits.{needed_is}
use Rattle.flat_design.specs.Growing.{IsMore, IsReadable}
use Rattle.flat_design.specs.Adding.{IsAdded}
use Rattle.flat_design.proofs.Growing.{get_kept, reset_more, more_added}

-- ---- resets

any_same : (f g : ℕ → Bool) (es : List ExprId) → AreSame f g es → list_any (λ (e : ExprId). f e.0) es ≡ list_any (λ (e : ExprId). g e.0) es
any_same f g [] h = refl
any_same f g (e ∷ es) h = let a = h.0 in let b = any_same f g es h.1 in cc

reset_same : (f g : ℕ → Bool) (e : Expr) → AreSame f g (named e) → reset_test f e ≡ reset_test g e
reset_same f g (Reset domain place) h = refl
reset_same f g e h = any_same f g (named e) h

reset_looks : (k : ℕ) (e : Expr) → AllBelow k (named e) → LooksBelow reset_test k e
reset_looks k e names f g same = reset_same f g e (same_below f g k (named e) same names)

-- ---- one expression at the end

get_last : {A : Type 0} (xs : List A) (x : A) → slice_get (xs ++ x ∷ []) (length xs) ≡ Some x
get_last [] x = refl
get_last (y ∷ xs) x = get_last xs x

pub is_added : (p : Pooled) (e : Expr) (id : ExprId) → IsPool p → AllBelow (length p.exprs) (named e) → reset_test (holds_reset p) e ≡ false → id ≡ record { 0 = length p.exprs } → IsAdded (expr_added p e) e id
unfolding holds_reset
is_added p e id rules names none is = rw is record {
  stands = get_last p.exprs e;
  resolved =
      answer_at false reset_test (p.exprs ++ e ∷ []) (length p.exprs) e (get_last p.exprs e) (reset_looks (length p.exprs) e names)
      ∙ reset_same (holds_reset (expr_added p e)) (holds_reset p) e (same_below (holds_reset (expr_added p e)) (holds_reset p) (length p.exprs) (named e) (reset_more p (expr_added p e) rules (more_added p e)) names)
      ∙ none;
}

-- ---- what it is

pub added_readable : (p : Pooled) (e : Expr) (id : ExprId) → IsAdded p e id → IsReadable p id
added_readable p e id h = record { there = place_below p.exprs id.0 e h.stands; resolved = h.resolved }

pub added_more : (p q : Pooled) (e : Expr) (id : ExprId) → IsPool p → IsMore p q → IsAdded p e id → IsAdded q e id
added_more p q e id rules more h =
    let there = place_below p.exprs id.0 e h.stands in
    record { stands = ap (λ es. slice_get es id.0) more.exprs ∙ get_kept p.exprs more.more id.0 there ∙ h.stands; resolved = reset_more p q rules more id.0 there ∙ h.resolved }

pub added_form : (p : Pooled) (e : Expr) (id : ExprId) → IsPool p → IsAdded p e id → form p id.0 ≡ form_step p.signals (form p) e
added_form p e id rules h = form_is p id.0 e rules h.stands

pub added_num : (p : Pooled) (e : Expr) (id : ExprId) (env : List ℤ) → IsPool p → IsAdded p e id → num p env id.0 ≡ value_step (form p) env (num p env) e
added_num p e id env rules h = num_is p env id.0 e rules h.stands

pub added_needs : (p : Pooled) (e : Expr) (id : ExprId) → IsPool p → IsAdded p e id → needed p id.0 ≡ bits_step (form p) (needed p) e
added_needs p e id rules h = needed_is p id.0 e rules h.stands
