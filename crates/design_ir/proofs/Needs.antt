-- The bits that an expression needs decide its bits.
use Rattle.std.specs.Prelude.{◌≡◌, refl, ℕ, zero, suc, ◌+◌, ◌-◌, ◌<◌, ◌≤◌, Bool, true, false, if◌then◌else◌, List, [], ◌∷◌, ◌++◌, ℤ, ◌+ℤ◌}
use Rattle.std.specs.List.{flat_map, range_with_len}
use Rattle.std.proofs.Common.{sym, ◌∙◌, ap, arith, ⊎_elim}
use Rattle.std.proofs.lemmas.Bool.{cond_below, cond_above, cases_lt}
use Rattle.amh_bits.specs.Integers.{int_and}
use Rattle.amh_bits.specs.Patterns.{IsOf, int_bit}
use Rattle.amh_bits.proofs.Same.{same_int, past_unsigned, past_signed}
use Rattle.amh_bits.proofs.BitsOf.{int_bit_and}
use Rattle.shape_rules.specs.Forms.{Form}
use Rattle.design_ir.specs.Targets.{Bit}
use Rattle.design_ir.specs.Circuits.{at}
use Rattle.design_ir.specs.Needed.{extended, every}

-- the environments have the same bit there
abbrev pub SameBit : List ℤ → List ℤ → Bit → Type 0
SameBit E F b = int_bit (at E b.sig) b.index ≡ int_bit (at F b.sig) b.index

abbrev pub Agree : List ℤ → List ℤ → List Bit → Type 0
Agree E F [] = Unit {0}
Agree E F (b ∷ bs) = SameBit E F b × Agree E F bs

module _ (E F : List ℤ) where
  agree_left : (xs ys : List Bit) → Agree E F (xs ++ ys) → Agree E F xs
  agree_left [] ys h = tt
  agree_left (x ∷ xs) ys h = (h.0, agree_left xs ys h.1)

  agree_right : (xs ys : List Bit) → Agree E F (xs ++ ys) → Agree E F ys
  agree_right [] ys h = h
  agree_right (x ∷ xs) ys h = agree_right xs ys h.1

  agree_each : (bits : ℕ → List Bit) (a n k : ℕ) → Agree E F (flat_map bits (range_with_len a n)) → a ≤ k → k < a + n → Agree E F (bits k)
  agree_each bits a zero k h low high = absurd (omega arith)
  agree_each bits a (suc n) k h low high =
      ⊎_elim
      (λ lt. agree_each bits (a + 1) n k (agree_right (bits a) _ h) (omega arith) (omega arith))
      (λ ge. let e : a ≡ k = omega arith in rw (← e) (agree_left (bits a) _ h))
      (cases_lt a k)

  -- where all needed bits agree, two numbers of the shape are one
  every_same : (f : Form) (bits : ℕ → List Bit) (x y : ℤ) → IsOf f.signed f.width x → IsOf f.signed f.width y → ((k : ℕ) → k < f.width → Agree E F (bits k) → int_bit x k ≡ int_bit y k) → Agree E F (every f bits) → x ≡ y
  every_same f bits x y p q each h =
      same_int f.signed f.width x y p q (λ k lt. each k lt (agree_each bits 0 f.width k h (omega arith) (omega arith)))

  past_same : (signed : Bool) (width : ℕ) (bits : ℕ → List Bit) (x y : ℤ) (k : ℕ) → IsOf signed width x → IsOf signed width y → ((k : ℕ) → k < width → Agree E F (bits k) → int_bit x k ≡ int_bit y k) → width ≤ k → Agree E F (if signed then bits (width - 1) else []) → int_bit x k ≡ int_bit y k
  past_same false width bits x y k p q each far h = past_unsigned width k x p far ∙ sym (past_unsigned width k y q far)
  past_same true zero bits x y k p q each far h = ap (λ z. int_bit z k) (same_int true zero x y p q (λ j lt. absurd (omega arith)))
  past_same true (suc w) bits x y k p q each far h =
      let i : suc w - 1 ≡ w = omega arith in
      past_signed w k x p (omega arith) ∙ each w (omega arith) (rw i at h) ∙ sym (past_signed w k y q (omega arith))

  -- bit k, also past the width
  extended_same : (f : Form) (bits : ℕ → List Bit) (x y : ℤ) (k : ℕ) → IsOf f.signed f.width x → IsOf f.signed f.width y → ((k : ℕ) → k < f.width → Agree E F (bits k) → int_bit x k ≡ int_bit y k) → Agree E F (extended f bits k) → int_bit x k ≡ int_bit y k
  extended_same f bits x y k p q each h =
      ⊎_elim
      (λ lt. each k lt (rw (← cond_below k f.width (bits k) (if f.signed then bits (f.width - 1) else []) lt) at h))
      (λ ge. past_same f.signed f.width bits x y k p q each ge (rw (← cond_above k f.width (bits k) (if f.signed then bits (f.width - 1) else []) _ ge refl) at h))
      (cases_lt k f.width)

  -- a conjunction goes bit by bit
  and_same : (fa fb : Form) (ba bb : ℕ → List Bit) (x x' y y' : ℤ) (k : ℕ) → IsOf fa.signed fa.width x → IsOf fa.signed fa.width x' → IsOf fb.signed fb.width y → IsOf fb.signed fb.width y' → ((k : ℕ) → k < fa.width → Agree E F (ba k) → int_bit x k ≡ int_bit x' k) → ((k : ℕ) → k < fb.width → Agree E F (bb k) → int_bit y k ≡ int_bit y' k) → Agree E F (extended fa ba k ++ extended fb bb k) → int_bit (int_and x y) k ≡ int_bit (int_and x' y') k
  and_same fa fb ba bb x x' y y' k p p' q q' ea eb h =
      let a = extended_same fa ba x x' k p p' ea (agree_left (extended fa ba k) (extended fb bb k) h) in
      let b = extended_same fb bb y y' k q q' eb (agree_right (extended fa ba k) (extended fb bb k) h) in
      rw (int_bit_and x y k, int_bit_and x' y' k, a, b) refl

  -- a sum takes every bit
  sum_same : (fa fb : Form) (ba bb : ℕ → List Bit) (x x' y y' : ℤ) (k : ℕ) → IsOf fa.signed fa.width x → IsOf fa.signed fa.width x' → IsOf fb.signed fb.width y → IsOf fb.signed fb.width y' → ((k : ℕ) → k < fa.width → Agree E F (ba k) → int_bit x k ≡ int_bit x' k) → ((k : ℕ) → k < fb.width → Agree E F (bb k) → int_bit y k ≡ int_bit y' k) → Agree E F (every fa ba ++ every fb bb) → int_bit (x +ℤ y) k ≡ int_bit (x' +ℤ y') k
  sum_same fa fb ba bb x x' y y' k p p' q q' ea eb h =
      let a = every_same fa ba x x' p p' ea (agree_left (every fa ba) (every fb bb) h) in
      let b = every_same fb bb y y' q q' eb (agree_right (every fa ba) (every fb bb) h) in
      rw (a, b) refl
