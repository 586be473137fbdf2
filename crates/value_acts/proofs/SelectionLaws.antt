-- The expressions of copies and of parts at an offset are such that a pool takes them.
use Rattle.std.specs.Prelude.{◌≡◌, refl, ℕ, zero, suc, ◌*◌, ◌<◌, ◌≤◌, min, nat_lt, if◌then◌else◌, Bool, true, false, ℤ, pos, negsuc, List, [], ◌∷◌, ◌++◌, replicate, length, slice_index_or, Option, Some, None, Result, Ok, Err, IfSome, IfOk}
use Rattle.std.proofs.Common.{sym, subst, ap, arith, length-append}
use Rattle.std.proofs.Math.Nat.{suc-mul, mul-le-mul_right}
use Rattle.std.proofs.lemmas.Bool.Decides.{nat_tests}
use Rattle.shape_rules.specs.Forms.{Form, unsigned}
use Rattle.design_ir.specs.declared.ids.ExprId.{ExprId}
use Rattle.design_ir.specs.declared.expr.Expr.TheVariants.{Cat, Part}
use Rattle.design_ir.specs.Pools.{Pooled}
use Rattle.design_ir.specs.PoolRules.{IsExpr}
use Rattle.design_ir.specs.Named.{AllBelow}
use Rattle.design_ir.specs.Values.{form, total_width}
use Rattle.py_frames.specs.declared.request.Cause.TheVariants as cause
use Rattle.amh_things.specs.declared.thing.Thing.{Thing}
use Rattle.amh_things.specs.declared.plan.Plan.{Plan}
use Rattle.amh_things.specs.declared.plan.PlanStop.{PlanStop}
use Rattle.amh_things.specs.declared.operand.Operand.{Operand}
use Rattle.amh_things.specs.Operands.{operand_form, operand_id, constants, IsOperand}
use Rattle.amh_things.specs.Plans.{forms, ends_of, IsPlanned, IsDrafted}
use Rattle.amh_things.specs.Ends.{Ends}
use Rattle.value_acts.specs.Selections.{replicated, selected}
use Rattle.amh_things.proofs.Drafts.{forms_length, form_is, accepted, narrow, unless-ok, operand_in, drafts, ids_at, all_forms, value_drafted}

not_wide : (width : ℕ) (b : Bool) → nat_lt 128 width ≡ b → (if b then Some cause.Width else None) ≡ None → width ≤ 128
not_wide width true e h = cc
not_wide width false e h = grind (arith, nat_tests)

module _ (p : Pooled) (things : List Thing) (e : ExprId) (there : e.0 < length p.exprs) where
  -- ---- copies

  here : e.0 < length (forms p)
  here = omega (arith, there, forms_length p)

  copies_width : (n : ℕ) → total_width (λ k. slice_index_or (forms p) k (unsigned 0)) (replicate n e) ≡ n * (form p e.0).width
  copies_width zero = omega arith
  copies_width (suc n) =
      let one : (slice_index_or (forms p) e.0 (unsigned 0)).width ≡ (form p e.0).width = ap (λ (x : Form). x.width) (sym (form_is p e.0)) in
      omega (arith, one, copies_width n, suc-mul n (form p e.0).width)

  copies_below : (n : ℕ) → AllBelow (length (forms p)) (replicate n e)
  copies_below zero = tt
  copies_below (suc n) = (here, copies_below n)

  fewer : (n w : ℕ) → n * w ≤ 128 → min n 128 * w ≤ 128
  fewer n w h = omega (arith, h, mul-le-mul_right {m = min n 128} {n = n} w (omega arith))

  replicated_drafted : (n : Option ℤ) (plan : Plan) → replicated (ends_of p things) e (form p e.0).width n ≡ Ok plan → IsDrafted p plan
  replicated_drafted (Some (pos n)) plan made =
      let r = unless-ok _ _ plan made in
      let few = not_wide (n * (form p e.0).width) _ refl r.0 in
      let cat = Cat (replicate (min n 128) e) in
      let taken : IsExpr p.signals (forms p) cat = record {
        names = copies_below (min n 128);
        formed = tt;
        parts = tt;
        accepted = narrow (total_width (λ k. slice_index_or (forms p) k (unsigned 0)) (replicate (min n 128) e)) (omega (arith, copies_width (min n 128), fewer n (form p e.0).width few));
      } in
      rw r.1 (value_drafted p things [] cat (taken, tt))
  replicated_drafted (Some (negsuc n)) plan made = cc
  replicated_drafted None plan made = cc

  pub copies_drafted : (r : Result Plan PlanStop) (n : Option ℤ) → IsPlanned r (replicated (ends_of p things) e (form p e.0).width n) → IfOk r (IsDrafted p)
  copies_drafted (Ok plan) n made = replicated_drafted n plan made
  copies_drafted (Err stop) n made = tt

  pub copies_made_drafted : (r : Result Plan PlanStop) (ends : Ends) (w : ℕ) (n : Option ℤ) → ends ≡ ends_of p things → w ≡ (form p e.0).width → IsPlanned r (replicated ends e w n) → IfOk r (IsDrafted p)
  copies_made_drafted r ends w n is wide made = copies_drafted r n (subst (λ (x : ℕ). IsPlanned r (replicated (ends_of p things) e x n)) wide (subst (λ (x : Ends). IsPlanned r (replicated x e w n)) is made))

  -- ---- parts

  selected_drafted : (by_words : Bool) (x : Option Operand) (w : Option ℤ) (plan : Plan) → IfSome x (IsOperand p) → selected (ends_of p things) e by_words x w ≡ Ok plan → IsDrafted p plan
  selected_drafted by_words (Some x) (Some (pos w)) plan hx made =
      let known : List Form = forms p in
      let r = unless-ok _ _ plan made in
      let at = rw (forms_length p) at (ids_at known (x ∷ []) (operand_in p x hx, tt)) in
      let part = Part e (operand_id (length p.exprs) x) w (if by_words then w else 1) in
      let last : IsExpr p.signals (known ++ all_forms (x ∷ [])) part = record {
        names = (omega (arith, here, length-append known (all_forms (x ∷ []))), (at.0.0, tt));
        formed = tt;
        parts = tt;
        accepted = rw (ap (λ (g : Form). g.signed) at.0.1) (accepted (operand_form x).signed w r.0);
      } in
      rw r.1 (value_drafted p things (constants (x ∷ [])) part (drafts p.signals known (x ∷ []) (part ∷ []) (operand_in p x hx, tt) (last, tt)))
  selected_drafted by_words None w plan hx made = cc
  selected_drafted by_words (Some x) None plan hx made = cc
  selected_drafted by_words (Some x) (Some (negsuc w)) plan hx made = cc

  pub part_drafted : (r : Result Plan PlanStop) (by_words : Bool) (x : Option Operand) (w : Option ℤ) → IfSome x (IsOperand p) → IsPlanned r (selected (ends_of p things) e by_words x w) → IfOk r (IsDrafted p)
  part_drafted (Ok plan) by_words x w hx made = selected_drafted by_words x w plan hx made
  part_drafted (Err stop) by_words x w hx made = tt
