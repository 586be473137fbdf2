-- A gated enable, and the pool with it.
use Rattle.std.specs.Prelude.{◌≡◌, refl, ℕ, ◌<◌, ◌≤◌, Bool, true, false, List, [], ◌∷◌, ◌++◌, length, slice_get, pos, Some, None}
use Rattle.std.proofs.Common.{◌∙◌, ap, arith}
use Rattle.shape_rules.specs.Forms.{Form, common, IsForm}
use Rattle.design_ir.specs.declared.ids.ExprId.{ExprId}
use Rattle.design_ir.specs.declared.expr.Expr.TheVariants.{Const}
use Rattle.design_ir.specs.Pools.{Pooled}
use Rattle.design_ir.specs.PoolRules.{IsPool, shape_stop}
use Rattle.design_ir.specs.Values.{form}
use Rattle.design_ir.proofs.Equations.{standing, form_is}
use Rattle.flat_design.proofs.Growing.{form_more, more_added}
use Rattle.flat_design.proofs.Choosing.{fits_stop}
use Rattle.domain_transforms.specs.Enabling.{zero_of}

pub get_last : {A : Type 0} (xs : List A) (x : A) → slice_get (xs ++ x ∷ []) (length xs) ≡ Some x
get_last [] x = refl
get_last (y ∷ xs) x = get_last xs x

pub form_width : (w : ℕ) (b : Bool) → IsForm w b → w ≤ 128
form_width w true h = h.1
form_width w false h = h

common_self : (f : Form) → (common f f).width ≡ f.width
common_self f = by f.signed refl
  where
    by : (b : Bool) → f.signed ≡ b → (common f f).width ≡ f.width
    by true e = rw e (omega arith)
    by false e = rw e (omega arith)

module _ (q : Pooled) (e : ExprId) (rules : IsPool q) (rules1 : IsPool (zero_of q e)) (there : e.0 < length q.exprs) where
  pub zero_form : form (zero_of q e) (length q.exprs) ≡ form q e.0
  zero_form = form_is (zero_of q e) (length q.exprs) (Const (pos 0) (form q e.0)) rules1 (get_last q.exprs (Const (pos 0) (form q e.0)))

  pub enable_form : form (zero_of q e) e.0 ≡ form q e.0
  enable_form = form_more q (zero_of q e) rules (more_added q (Const (pos 0) (form q e.0))) e.0 there

  few : (form q e.0).width ≤ 128
  few = form_width (form q e.0).width (form q e.0).signed (standing (zero_of q e) (length q.exprs) (Const (pos 0) (form q e.0)) rules1 (get_last q.exprs (Const (pos 0) (form q e.0)))).formed

  pub gate_accepted : (z : ExprId) → z ≡ record { 0 = length q.exprs } → shape_stop false (common (form (zero_of q e) e.0) (form (zero_of q e) z.0)).width ≡ None
  gate_accepted z is =
      let same : (common (form (zero_of q e) e.0) (form (zero_of q e) z.0)).width ≡ (form q e.0).width =
      ap (λ (x : ExprId). (common (form (zero_of q e) e.0) (form (zero_of q e) x.0)).width) is ∙ ap (λ f. (common f (form (zero_of q e) (length q.exprs))).width) enable_form ∙ ap (λ f. (common (form q e.0) f).width) zero_form ∙ common_self (form q e.0) in
      fits_stop (common (form (zero_of q e) e.0) (form (zero_of q e) z.0)).width (omega (arith, same, few))
