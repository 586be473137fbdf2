-- The expressions of arrays are such that a pool takes them.
use Rattle.std.specs.Prelude.{◌≡◌, refl, ℕ, ◌+◌, ◌<◌, ◌≤◌, nat_lt, Bool, true, false, List, [], ◌∷◌, ◌++◌, length, drop, slice_index_or, Result, Ok, Err, IfOk}
use Rattle.std.specs.List.{AllByRecursion}
use Rattle.std.proofs.Common.{sym, ap, ◌∙◌, arith, get_or, length-append}
use Rattle.std.proofs.Math.ListN.{get_or-append}
use Rattle.std.proofs.lemmas.List.{at_drop_more}
use Rattle.shape_rules.specs.Forms.{Form, unsigned, common, common_width}
use Rattle.design_ir.specs.declared.ids.ExprId.{ExprId}
use Rattle.design_ir.specs.declared.expr.Expr.TheVariants.{Pick}
use Rattle.design_ir.specs.Pools.{Pooled}
use Rattle.design_ir.specs.PoolRules.{IsExpr}
use Rattle.design_ir.specs.Values.{form, common_with, common_of_all}
use Rattle.amh_things.specs.declared.thing.Thing.{Thing}
use Rattle.amh_things.specs.declared.plan.Plan.{Plan}
use Rattle.amh_things.specs.declared.plan.PlanStop.{PlanStop}
use Rattle.amh_things.specs.declared.operand.Operand.{Operand}
use Rattle.amh_things.specs.Operands.{operand_form, operand_id, operand_constants, constants, operand_ids, IsOperand}
use Rattle.amh_things.specs.Plans.{forms, ends_of, value_made, IsPlanned, IsDrafted}
use Rattle.value_acts.specs.Arrays.{common_from, common_form, picked_where}
use Rattle.amh_things.proofs.Drafts.{forms_length, form_is, narrow, drafts, ids_at, all_forms, value_drafted, AreAt}
use Rattle.value_acts.proofs.JoinLaws.{all_in, at_below, where_ok, at_most}

left_fits : (s t : Bool) (a b : ℕ) → a ≤ common_width s t a b
left_fits false false a b = omega arith
left_fits false true a b = omega arith
left_fits true false a b = omega arith
left_fits true true a b = omega arith

common_from-grows : (f : Form) (xs : List Operand) → f.width ≤ (common_from f xs).width
common_from-grows f [] = omega arith
common_from-grows f (x ∷ xs) = omega (arith, left_fits f.signed (operand_form x).signed f.width (operand_form x).width, common_from-grows (common f (operand_form x)) xs)

-- where the next operand makes it too wide, so do all of them
pub wide_at : (f : Form) (xs : List Operand) (i : ℕ) (x : Operand) (g total : Form) → i < length xs → common_from f (drop i xs) ≡ total → x ≡ get_or xs i x → g ≡ operand_form x → 128 < (common f g).width → 128 < total.width
wide_at f xs i x g total h all here is wide =
    let rest : common_from f (drop i xs) ≡ common_from (common f (operand_form x)) (drop (i + 1) xs) = at_drop_more (common_from f) xs i x h ∙ ap (λ (y : Operand). common_from (common f (operand_form y)) (drop (i + 1) xs)) (sym here) in
    let grown = common_from-grows (common f (operand_form x)) (drop (i + 1) xs) in
    let same : (common f g).width ≡ (common f (operand_form x)).width = ap (λ (y : Form). (common f y).width) is in
    let whole : total.width ≡ (common_from (common f (operand_form x)) (drop (i + 1) xs)).width = ap (λ (y : Form). y.width) (sym all ∙ rest) in
    omega (arith, grown, same, whole, wide)

-- ---- the element that a value chooses

at_common : (known : List Form) (f : Form) (es : List ExprId) (xs : List Operand) → AreAt known es xs → common_with (λ k. slice_index_or known k (unsigned 0)) f es ≡ common_from f xs
at_common known f [] [] h = refl
at_common known f [] (x ∷ xs) h = absurd h
at_common known f (e ∷ es) [] h = absurd h
at_common known f (e ∷ es) (x ∷ xs) h =
    ap (λ (g : Form). common_with (λ k. slice_index_or known k (unsigned 0)) (common f g) es) h.0.1 ∙ at_common known (common f (operand_form x)) es xs h.1

at_common_of_all : (known : List Form) (e : ExprId) (es : List ExprId) (x : Operand) (xs : List Operand) → AreAt known (e ∷ es) (x ∷ xs) → common_of_all (λ k. slice_index_or known k (unsigned 0)) (e ∷ es) ≡ common_form (x ∷ xs)
at_common_of_all known e es x xs h =
    ap (λ (g : Form). common_with (λ k. slice_index_or known k (unsigned 0)) g es) h.0.1 ∙ at_common known (operand_form x) es xs h.1

module _ (p : Pooled) (things : List Thing) (e : ExprId) (there : e.0 < length p.exprs) (plain : (form p e.0).signed ≡ false) where
  here : e.0 < length (forms p)
  here = omega (arith, there, forms_length p)

  pick_drafted : (x : Operand) (xs : List Operand) → AllByRecursion (IsOperand p) (x ∷ xs) → (common_form (x ∷ xs)).width ≤ 128 → IsDrafted p (value_made (ends_of p things) (constants (x ∷ xs)) (Pick e (operand_ids (length p.exprs) (x ∷ xs))))
  pick_drafted x xs h few =
      let known : List Form = forms p in
      let more : List Form = all_forms (x ∷ xs) in
      let all = all_in p (x ∷ xs) h in
      let at = rw (forms_length p) at (ids_at known (x ∷ xs) all) in
      let ids : List ExprId = operand_ids (length p.exprs) (x ∷ xs) in
      let shape : slice_index_or (known ++ more) e.0 (unsigned 0) ≡ form p e.0 = get_or-append known more (unsigned 0) e.0 here ∙ sym (form_is p e.0) in
      let unsigned_index : (slice_index_or (known ++ more) e.0 (unsigned 0)).signed ≡ false = ap (λ (f : Form). f.signed) shape ∙ plain in
      let width : (common_of_all (λ k. slice_index_or (known ++ more) k (unsigned 0)) ids).width ≡ (common_form (x ∷ xs)).width = ap (λ (f : Form). f.width) (at_common_of_all (known ++ more) (operand_id (length p.exprs) x) (operand_ids (length p.exprs + length (operand_constants x)) xs) x xs at) in
      let pick = Pick e ids in
      let last : IsExpr p.signals (known ++ more) pick = record {
        names = (omega (arith, here, length-append known more), at_below (known ++ more) ids (x ∷ xs) at);
        formed = tt;
        parts = λ none. cc;
        accepted = rw unsigned_index (narrow (common_of_all (λ k. slice_index_or (known ++ more) k (unsigned 0)) ids).width (omega (arith, few, width)));
      } in
      value_drafted p things (constants (x ∷ xs)) pick (drafts p.signals known (x ∷ xs) (pick ∷ []) all (last, tt))

  pick_where_drafted : (xs : List Operand) (plan : Plan) → AllByRecursion (IsOperand p) xs → picked_where (ends_of p things) e false xs ≡ Ok plan → IsDrafted p plan
  pick_where_drafted [] plan h made = cc
  pick_where_drafted (x ∷ xs) plan h made =
      let r = where_ok (nat_lt 128 (common_form (x ∷ xs)).width) (nat_lt 65536 (length (x ∷ xs))) (value_made (ends_of p things) (constants (x ∷ xs)) (Pick e (operand_ids (length p.exprs) (x ∷ xs)))) plan made in
      rw r.1 (pick_drafted x xs h (at_most (common_form (x ∷ xs)).width r.0))

  pub picked_drafted : (r : Result Plan PlanStop) (xs : List Operand) → AllByRecursion (IsOperand p) xs → IsPlanned r (picked_where (ends_of p things) e false xs) → IfOk r (IsDrafted p)
  picked_drafted (Ok plan) xs h made = pick_where_drafted xs plan h made
  picked_drafted (Err stop) xs h made = tt
