-- Numbers whose bits are decided by the bits of signals that they need.
use Rattle.std.specs.Prelude.{◌≡◌, refl, ℕ, zero, suc, ◌+◌, ◌-◌, ◌<◌, ◌≤◌, Bool, true, false, if◌then◌else◌, List, [], ◌∷◌, ◌++◌, ℤ}
use Rattle.std.specs.List.{AllByRecursion, flat_map, range_with_len}
use Rattle.std.proofs.Common.{sym, ◌∙◌, ap, arith, ⊎_elim}
use Rattle.std.proofs.lemmas.Bool.{cond_below, cond_above, cases_lt}
use Rattle.amh_bits.specs.Patterns.{IsOf, int_bit}
use Rattle.amh_bits.proofs.Same.{same_int, past_unsigned, past_signed}
use Rattle.shape_rules.specs.Forms.{Form}
use Rattle.design_ir.specs.Targets.{Bit}
use Rattle.design_ir.specs.Needed.{extended, every}

-- ---- parts of what holds of all

pub all_left : {A : Type 0} (P : A → Type 0) (xs ys : List A) → AllByRecursion P (xs ++ ys) → AllByRecursion P xs
all_left P [] ys h = tt
all_left P (x ∷ xs) ys h = (h.0, all_left P xs ys h.1)

pub all_right : {A : Type 0} (P : A → Type 0) (xs ys : List A) → AllByRecursion P (xs ++ ys) → AllByRecursion P ys
all_right P [] ys h = h
all_right P (x ∷ xs) ys h = all_right P xs ys h.1

all_each : {A : Type 0} (P : A → Type 0) (bits : ℕ → List A) (a n k : ℕ) → AllByRecursion P (flat_map bits (range_with_len a n)) → a ≤ k → k < a + n → AllByRecursion P (bits k)
all_each P bits a zero k h low high = absurd (omega arith)
all_each P bits a (suc n) k h low high =
    ⊎_elim
    (λ (lt : a < k). all_each P bits (a + 1) n k (all_right P (bits a) (flat_map bits (range_with_len (a + 1) n)) h) (omega arith) (omega arith))
    (λ (ge : k ≤ a). let e : a ≡ k = omega arith in rw (← e) (all_left P (bits a) (flat_map bits (range_with_len (a + 1) n)) h))
    (cases_lt a k)

module _ (P : Bit → Type 0) where
  -- two numbers of the shape have each bit in common of which all needed bits are among these
  pub record IsDecided (f : Form) (bits : ℕ → List Bit) (x y : ℤ) : Type 0 where
    pub left : IsOf f.signed f.width x
    pub right : IsOf f.signed f.width y
    pub same : (k : ℕ) → k < f.width → AllByRecursion P (bits k) → int_bit x k ≡ int_bit y k

  -- they are one where all needed bits are
  pub whole_same : (f : Form) (bits : ℕ → List Bit) (x y : ℤ) → IsDecided f bits x y → AllByRecursion P (every f bits) → x ≡ y
  whole_same f bits x y d h =
      same_int f.signed f.width x y d.left d.right (λ k lt. d.same k lt (all_each P bits 0 f.width k h (omega arith) (omega arith)))

  past_same : (signed : Bool) (width : ℕ) (bits : ℕ → List Bit) (x y : ℤ) (k : ℕ) → IsDecided (record { width = width; signed = signed }) bits x y → width ≤ k
      → AllByRecursion P (if signed then bits (width - 1) else []) → int_bit x k ≡ int_bit y k
  past_same false width bits x y k d far h = past_unsigned width k x d.left far ∙ sym (past_unsigned width k y d.right far)
  past_same true zero bits x y k d far h = ap (λ z. int_bit z k) (same_int true zero x y d.left d.right (λ j lt. absurd (omega arith)))
  past_same true (suc w) bits x y k d far h =
      let i : suc w - 1 ≡ w = omega arith in
      past_signed w k x d.left (omega arith) ∙ d.same w (omega arith) (rw i at h) ∙ sym (past_signed w k y d.right (omega arith))

  -- bit k, also past the width
  pub extended_same : (f : Form) (bits : ℕ → List Bit) (x y : ℤ) (k : ℕ) → IsDecided f bits x y → AllByRecursion P (extended f bits k) → int_bit x k ≡ int_bit y k
  extended_same f bits x y k d h =
      let past : List Bit = if f.signed then bits (f.width - 1) else [] in
      ⊎_elim
      (λ lt. d.same k lt (rw (← cond_below k f.width (bits k) past lt) at h))
      (λ ge. past_same f.signed f.width bits x y k d ge (rw (← cond_above k f.width (bits k) past past ge refl) at h))
      (cases_lt k f.width)
