-- Environments that have the same comb bits, and the same of all else, are the same.
use Rattle.std.specs.Prelude.{◌≡◌, refl, ℕ, zero, suc, ◌<◌, true, false, List, [], ◌∷◌, length, ℤ}
use Rattle.std.proofs.Common.{arith, ⊎_elim}
use Rattle.std.proofs.lemmas.Bool.{cases_Bool}
use Rattle.amh_bits.specs.Patterns.{int_bit}
use Rattle.amh_bits.proofs.Same.{same_int}
use Rattle.shape_rules.specs.Forms.{Form}
use Rattle.design_ir.specs.Values.{signal_form}
use Rattle.design_ir.specs.Targets.{Bit}
use Rattle.design_ir.specs.Circuits.{Circuit, at}
use Rattle.design_ir.proofs.NumbersFit.{FitsSignals}
use Rattle.comb_graph.specs.Orders.{is_comb, IsCombBit}

-- lists of one length that have the same at each place
same_lists : (xs ys : List ℤ) (n : ℕ) → length xs ≡ n → length ys ≡ n → ((s : ℕ) → s < n → at xs s ≡ at ys s) → xs ≡ ys
same_lists [] [] n e f same = refl
same_lists [] (y ∷ ys) n e f same = absurd (omega (arith, e, f))
same_lists (x ∷ xs) [] n e f same = absurd (omega (arith, e, f))
same_lists (x ∷ xs) (y ∷ ys) zero e f same = absurd (omega (arith, e))
same_lists (x ∷ xs) (y ∷ ys) (suc n) e f same =
    let head : x ≡ y = same 0 (omega arith) in
    let tail : xs ≡ ys = same_lists xs ys n (omega (arith, e)) (omega (arith, f)) (λ s l. same (suc s) (omega (arith, l))) in
    λ i. head i ∷ tail i

-- a number for each signal, of its shape
pub record IsWhole (c : Circuit) (env : List ℤ) : Type 0 where
  pub fits : FitsSignals c.pool env
  pub long : length env ≡ length c.pool.signals

module _ (c : Circuit) (E F : List ℤ) (left : IsWhole c E) (right : IsWhole c F) (bits : (b : Bit) → IsCombBit c b → int_bit (at E b.sig) b.index ≡ int_bit (at F b.sig) b.index) (others : (s : ℕ) → is_comb c s ≡ false → at E s ≡ at F s) where
  number_same : (s : ℕ) → s < length c.pool.signals → at E s ≡ at F s
  number_same s there =
      let f : Form = signal_form c.pool.signals s in
      ⊎_elim
      (λ (comb : is_comb c s ≡ true).
      same_int f.signed f.width (at E s) (at F s) (left.fits s there) (right.fits s there) (λ k inside. bits record { sig = s; index = k } (record { comb = comb; inside = inside })))
      (λ (not_comb : is_comb c s ≡ false). others s not_comb)
      (cases_Bool (is_comb c s))

  pub numbers_same : E ≡ F
  numbers_same = same_lists E F (length c.pool.signals) left.long right.long number_same
