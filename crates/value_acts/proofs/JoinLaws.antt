-- The expressions of `Cat` are such that a pool takes them.
use Rattle.std.specs.Prelude.{◌≡◌, refl, ℕ, ◌≤◌, ◌||◌, nat_lt, if◌then◌else◌, Bool, true, false, List, [], ◌∷◌, ◌++◌, length, slice_index_or, Result, Ok, Err, IfOk}
use Rattle.std.specs.List.{AllByRecursion}
use Rattle.std.proofs.Common.{ap, arith}
use Rattle.std.proofs.lemmas.Bool.Decides.{nat_tests}
use Rattle.shape_rules.specs.Forms.{Form, unsigned}
use Rattle.design_ir.specs.declared.ids.ExprId.{ExprId}
use Rattle.design_ir.specs.declared.expr.Expr.TheVariants.{Cat}
use Rattle.design_ir.specs.Pools.{Pooled}
use Rattle.design_ir.specs.PoolRules.{IsExpr}
use Rattle.design_ir.specs.Named.{AllBelow}
use Rattle.design_ir.specs.Values.{total_width}
use Rattle.py_frames.specs.declared.request.Cause.TheVariants as cause
use Rattle.amh_things.specs.declared.thing.Thing.{Thing}
use Rattle.amh_things.specs.declared.plan.Plan.{Plan}
use Rattle.amh_things.specs.declared.plan.PlanStop.{PlanStop}
use Rattle.amh_things.specs.declared.operand.Operand.{Operand}
use Rattle.amh_things.specs.Operands.{operand_form, constants, operand_ids, IsOperand}
use Rattle.amh_things.specs.Plans.{forms, ends_of, IsPlanned, IsDrafted}
use Rattle.value_acts.specs.Joins.{bits_of_all, joined, joined_where}
use Rattle.amh_things.proofs.Drafts.{forms_length, narrow, operand_in, drafts, ids_at, all_forms, value_drafted, IsIn, AreAt}

pub all_in : (p : Pooled) (xs : List Operand) → AllByRecursion (IsOperand p) xs → AllByRecursion (IsIn (forms p)) xs
all_in p [] h = tt
all_in p (x ∷ xs) h = (operand_in p x h.0, all_in p xs h.1)

pub at_below : (known : List Form) (es : List ExprId) (xs : List Operand) → AreAt known es xs → AllBelow (length known) es
at_below known [] [] h = tt
at_below known [] (x ∷ xs) h = absurd h
at_below known (e ∷ es) [] h = absurd h
at_below known (e ∷ es) (x ∷ xs) h = (h.0.0, at_below known es xs h.1)

at_width : (known : List Form) (es : List ExprId) (xs : List Operand) → AreAt known es xs → total_width (λ k. slice_index_or known k (unsigned 0)) es ≡ bits_of_all xs
at_width known [] [] h = refl
at_width known [] (x ∷ xs) h = absurd h
at_width known (e ∷ es) [] h = absurd h
at_width known (e ∷ es) (x ∷ xs) h =
    let one : (slice_index_or known e.0 (unsigned 0)).width ≡ (operand_form x).width = ap (λ (f : Form). f.width) h.0.1 in
    omega (arith, one, at_width known es xs h.1)

pub where_ok : (wide many : Bool) (q plan : Plan) → (if wide then Err cause.Width else (if many then Err cause.Limit else Ok q)) ≡ Ok plan → (wide ≡ false) × (plan ≡ q)
where_ok true many q plan h = cc
where_ok false true q plan h = cc
where_ok false false q plan h = (refl, cc)

pub at_most : (width : ℕ) → nat_lt 128 width ≡ false → width ≤ 128
at_most width h = grind (arith, nat_tests)

module _ (p : Pooled) (things : List Thing) where
  joined_drafted : (xs : List Operand) → AllByRecursion (IsOperand p) xs → bits_of_all xs ≤ 128 → IsDrafted p (joined (ends_of p things) xs)
  joined_drafted xs h few =
      let known : List Form = forms p in
      let all = all_in p xs h in
      let at = rw (forms_length p) at (ids_at known xs all) in
      let cat = Cat (operand_ids (length p.exprs) xs) in
      let last : IsExpr p.signals (known ++ all_forms xs) cat = record {
        names = at_below (known ++ all_forms xs) (operand_ids (length p.exprs) xs) xs at;
        formed = tt;
        parts = tt;
        accepted = narrow (total_width (λ k. slice_index_or (known ++ all_forms xs) k (unsigned 0)) (operand_ids (length p.exprs) xs)) (omega (arith, few, at_width (known ++ all_forms xs) (operand_ids (length p.exprs) xs) xs at));
      } in
      value_drafted p things (constants xs) cat (drafts p.signals known xs (cat ∷ []) all (last, tt))

  pub cat_drafted : (r : Result Plan PlanStop) (long : Bool) (xs : List Operand) → AllByRecursion (IsOperand p) xs → IsPlanned r (joined_where (ends_of p things) false long xs) → IfOk r (IsDrafted p)
  cat_drafted (Ok plan) long xs h made =
      let r = where_ok (nat_lt 128 (bits_of_all xs)) (long || nat_lt 65536 (length xs)) (joined (ends_of p things) xs) plan made in
      rw r.1 (joined_drafted xs h (at_most (bits_of_all xs) r.0))
  cat_drafted (Err stop) long xs h made = tt
