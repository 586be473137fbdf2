-- The expressions of operators are such that a pool takes them.
use Rattle.std.specs.Prelude.{◌≡◌, refl, ℕ, ◌+◌, List, [], ◌∷◌, ◌++◌, length, Option, Some, None, Result, Ok, Err, IfSome, IfOk, ◌&&◌, Bool, true, false, if◌then◌else◌, codes}
use Rattle.lists.specs.Texts.{text_eq}
use Rattle.shape_rules.specs.Forms.{Form, unsigned}
use Rattle.shape_rules.specs.Rows.{operand_count}
use Rattle.shape_rules.specs.Stops.{is_shift, is_bad_operand, widest}
use Rattle.shape_rules.specs.declared.op.Op.{Op}
use Rattle.shape_rules.specs.declared.op.Op.TheVariants as op
use Rattle.design_ir.specs.declared.expr.Expr.TheVariants.{Unary, Binary}
use Rattle.design_ir.specs.Pools.{Pooled}
use Rattle.design_ir.specs.PoolRules.{IsExpr}
use Rattle.amh_things.specs.declared.thing.Thing.{Thing}
use Rattle.amh_things.specs.declared.plan.Plan.{Plan}
use Rattle.amh_things.specs.declared.plan.PlanStop.{PlanStop}
use Rattle.amh_things.specs.declared.operand.Operand.{Operand}
use Rattle.amh_things.specs.Operands.{operand_form, operand_constants, operand_id, constants, IsOperand}
use Rattle.amh_things.specs.Plans.{forms, ends_of, IsPlanned, IsDrafted}
use Rattle.value_acts.specs.Operators.{is_sign, comparison, bitwise_or_shift, binary_operator, unary_operator, unary_made, binary_made, unary_where, binary_where}
use Rattle.amh_things.proofs.Drafts.{forms_length, accepted, unless-ok, operand_in, drafts, ids_at, all_forms, value_drafted}

and_false : (b : Bool) → (b && false) ≡ false
and_false true = refl
and_false false = refl

-- ---- how many operands the operators of signs have

record Counts (n : ℕ) (r : Option Op) : Type 0 where
  are : IfSome r (λ o. operand_count o ≡ n)

first : {n : ℕ} (b : Bool) (o : Op) (rest : Option Op) → operand_count o ≡ n → Counts n rest → Counts n (if b then Some o else rest)
first true o rest h k = record { are = h }
first false o rest h k = k

no_operator : {n : ℕ} → Counts n None
no_operator = record { are = tt }

comparison-two : (sign : List ℕ) → Counts 2 (comparison sign)
comparison-two sign =
    first (text_eq sign (codes "==")) op.Eq _ refl (first (text_eq sign (codes "!=")) op.Ne _ refl (first (text_eq sign (codes "<")) op.Lt _ refl (first (text_eq sign (codes "<=")) op.Le _ refl (first (text_eq sign (codes ">")) op.Gt _ refl (first (text_eq sign (codes ">=")) op.Ge _ refl (no_operator))))))

bitwise-two : (sign : List ℕ) → Counts 2 (bitwise_or_shift sign)
bitwise-two sign =
    first (is_sign (codes "&") sign) op.And _ refl (first (is_sign (codes "|") sign) op.Or _ refl (first (is_sign (codes "^") sign) op.Xor _ refl (first (is_sign (codes "<<") sign) op.Shl _ refl (first (is_sign (codes ">>") sign) op.Shr _ refl (comparison-two sign)))))

binary-two : (sign : List ℕ) → Counts 2 (binary_operator sign)
binary-two sign =
    first (is_sign (codes "+") sign) op.Add _ refl (first (is_sign (codes "-") sign) op.Sub _ refl (first (is_sign (codes "*") sign) op.Mul _ refl (first (is_sign (codes "//") sign) op.Div _ refl (first (is_sign (codes "%") sign) op.Mod _ refl (bitwise-two sign)))))

unary-one : (sign : List ℕ) → Counts 1 (unary_operator sign)
unary-one sign =
    first (text_eq sign (codes "-")) op.Neg _ refl (first (text_eq sign (codes "~")) op.Not _ refl (first (text_eq sign (codes "abs")) op.Abs _ refl (no_operator)))

module _ (p : Pooled) (things : List Thing) (o : Op) where
  binary_made_drafted : (x y : Operand) (plan : Plan) → operand_count o ≡ 2 → IsOperand p x → IsOperand p y → binary_made (ends_of p things) o x y ≡ Ok plan → IsDrafted p plan
  binary_made_drafted x y plan two hx hy made =
      let known : List Form = forms p in
      let r = unless-ok _ _ plan made in
      let at = ids_at known (x ∷ y ∷ []) (operand_in p x hx, (operand_in p y hy, tt)) in
      let n : length known ≡ length p.exprs = forms_length p in
      let at' = rw n at at in
      let last : IsExpr p.signals (known ++ all_forms (x ∷ y ∷ [])) (Binary o (operand_id (length p.exprs) x) (operand_id (length p.exprs + length (operand_constants x)) y)) = record {
        names = (at'.0.0, (at'.1.0.0, tt));
        formed = tt;
        parts = two;
        accepted = rw (at'.0.1, at'.1.0.1) (accepted (is_bad_operand o (operand_form y)) (widest o (operand_form x) (operand_form y)) r.0);
      } in
      rw r.1 (value_drafted p things (constants (x ∷ y ∷ [])) _ (drafts p.signals known (x ∷ y ∷ []) (_ ∷ []) (operand_in p x hx, (operand_in p y hy, tt)) (last, tt)))

  pub unary_made_drafted : (x : Operand) (plan : Plan) → operand_count o ≡ 1 → IsOperand p x → unary_made (ends_of p things) o x ≡ Ok plan → IsDrafted p plan
  unary_made_drafted x plan one hx made =
      let known : List Form = forms p in
      let r = unless-ok _ _ plan made in
      let fine = rw (and_false (is_shift o)) at r.0 in
      let at = ids_at known (x ∷ []) (operand_in p x hx, tt) in
      let n : length known ≡ length p.exprs = forms_length p in
      let at' = rw n at at in
      let last : IsExpr p.signals (known ++ all_forms (x ∷ [])) (Unary o (operand_id (length p.exprs) x)) = record {
        names = (at'.0.0, tt);
        formed = tt;
        parts = one;
        accepted = rw at'.0.1 (accepted false (widest o (operand_form x) (unsigned 0)) fine);
      } in
      rw r.1 (value_drafted p things (constants (x ∷ [])) _ (drafts p.signals known (x ∷ []) (_ ∷ []) (operand_in p x hx, tt) (last, tt)))

module _ (p : Pooled) (things : List Thing) where
  unary_op_drafted : (o : Option Op) (x : Option Operand) (plan : Plan) → Counts 1 o → IfSome x (IsOperand p) → unary_where (ends_of p things) o x ≡ Ok plan → IsDrafted p plan
  unary_op_drafted (Some o) (Some x) plan one hx made = unary_made_drafted p things o x plan one.are hx made
  unary_op_drafted None x plan one hx made = cc
  unary_op_drafted (Some o) None plan one hx made = cc

  binary_op_drafted : (o : Option Op) (x y : Option Operand) (plan : Plan) → Counts 2 o → IfSome x (IsOperand p) → IfSome y (IsOperand p) → binary_where (ends_of p things) o x y ≡ Ok plan → IsDrafted p plan
  binary_op_drafted (Some o) (Some x) (Some y) plan two hx hy made = binary_made_drafted p things o x y plan two.are hx hy made
  binary_op_drafted None x y plan two hx hy made = cc
  binary_op_drafted (Some o) None y plan two hx hy made = cc
  binary_op_drafted (Some o) (Some x) None plan two hx hy made = cc

  -- what comes out of an operator of one operand
  pub unary_drafted : (r : Result Plan PlanStop) (sign : List ℕ) (x : Option Operand) → IfSome x (IsOperand p) → IsPlanned r (unary_where (ends_of p things) (unary_operator sign) x) → IfOk r (IsDrafted p)
  unary_drafted (Ok plan) sign x hx made = unary_op_drafted (unary_operator sign) x plan (unary-one sign) hx made
  unary_drafted (Err stop) sign x hx made = tt

  -- and of one of two
  pub binary_drafted : (r : Result Plan PlanStop) (sign : List ℕ) (x y : Option Operand) → IfSome x (IsOperand p) → IfSome y (IsOperand p) → IsPlanned r (binary_where (ends_of p things) (binary_operator sign) x y) → IfOk r (IsDrafted p)
  binary_drafted (Ok plan) sign x y hx hy made = binary_op_drafted (binary_operator sign) x y plan (binary-two sign) hx hy made
  binary_drafted (Err stop) sign x y hx hy made = tt
