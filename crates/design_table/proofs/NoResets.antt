-- Over expressions in which no reset stands, no expression has one.
use Rattle.std.specs.Prelude.{◌≡◌, refl, ℕ, zero, suc, not, Bool, true, false, List, [], ◌∷◌, ◌++◌, slice_index_or}
use Rattle.std.specs.List.{AllByRecursion, list_any}
use Rattle.std.proofs.Common.{sym}
use Rattle.std.proofs.lemmas.Bool.{false≢true, and_parts}
use Rattle.design_ir.specs.declared.ids.ExprId.{ExprId}
use Rattle.design_ir.specs.declared.expr.Expr.{Expr}
use Rattle.design_ir.specs.declared.expr.Expr.TheVariants as expr
use Rattle.design_ir.specs.Pools.{Pooled, answers}
use Rattle.design_ir.specs.Designs.{holds_reset, reset_test}
use Rattle.design_ir.proofs.Growth.{all_append}
use Rattle.design_table.specs.Tests.{is_reset, no_resets}

module _ (f : ℕ → Bool) (none : (k : ℕ) → f k ≡ false) where
  no_operand : (es : List ExprId) → list_any (λ (e : ExprId). f e.0) es ≡ false
  no_operand [] = refl
  no_operand (e ∷ es) = rw (none e.0) (no_operand es)

  no_reset_in : (e : Expr) → is_reset e ≡ false → reset_test f e ≡ false
  no_reset_in (expr.Reset domain place) h = absurd (false≢true (sym h))
  no_reset_in (expr.Const n s) h = no_operand []
  no_reset_in (expr.Sig s) h = no_operand []
  no_reset_in (expr.Unary o a) h = no_operand (a ∷ [])
  no_reset_in (expr.Binary o a b) h = no_operand (a ∷ b ∷ [])
  no_reset_in (expr.Mux s a b) h = no_operand (s ∷ a ∷ b ∷ [])
  no_reset_in (expr.Slice a low width) h = no_operand (a ∷ [])
  no_reset_in (expr.Cat es) h = no_operand es
  no_reset_in (expr.Part a offset width stride) h = no_operand (a ∷ offset ∷ [])
  no_reset_in (expr.Pick index es) h = no_operand (index ∷ es)
  no_reset_in (expr.Cast a signed) h = no_operand (a ∷ [])
  no_reset_in (expr.Matches a patterns) h = no_operand (a ∷ [])

AreFalse : List Bool → Type 0
AreFalse bs = AllByRecursion (λ b. b ≡ false) bs

false_at : (bs : List Bool) (k : ℕ) → AreFalse bs → slice_index_or bs k false ≡ false
unfolding AreFalse
false_at [] k h = refl
false_at (b ∷ bs) zero h = h.0
false_at (b ∷ bs) (suc k) h = false_at bs k h.1

not_true : (b : Bool) → not b ≡ true → b ≡ false
not_true true e = absurd (false≢true e)
not_true false e = refl

answers_false : (known : List Bool) (es : List Expr) → AreFalse known → no_resets es ≡ true → AreFalse (answers false reset_test known es)
unfolding AreFalse
answers_false known [] h plain = h
answers_false known (e ∷ es) h plain =
    let r = and_parts (not (is_reset e)) (no_resets es) plain in
    answers_false (known ++ reset_test (λ k. slice_index_or known k false) e ∷ []) es
    (all_append (λ b. b ≡ false) known (reset_test (λ k. slice_index_or known k false) e) h
    (no_reset_in (λ k. slice_index_or known k false) (λ k. false_at known k h) e (not_true (is_reset e) r.0))) r.1

pub none_held : (p : Pooled) (k : ℕ) → no_resets p.exprs ≡ true → holds_reset p k ≡ false
unfolding holds_reset AreFalse
none_held p k plain = false_at (answers false reset_test [] p.exprs) k (answers_false [] p.exprs tt plain)

-- one expression more
pub no_resets_more : (es : List Expr) (e : Expr) → no_resets es ≡ true → is_reset e ≡ false → no_resets (es ++ e ∷ []) ≡ true
no_resets_more [] e h k = rw k refl
no_resets_more (x ∷ es) e h k =
    let r = and_parts (not (is_reset x)) (no_resets es) h in
    rw (r.0) (no_resets_more es e r.1 k)
