-- What a value leaves at a bit, once it is written to the places of a target.
use Rattle.std.specs.Prelude.{◌≡◌, ◌≢◌, refl, ℕ, suc, ◌+◌, ◌<◌, List, [], ◌∷◌, length, slice_get, ℤ, Option, Some, None}
use Rattle.std.proofs.Common.{sym, ◌∙◌, ap, arith, ⊎_elim}
use Rattle.std.proofs.lemmas.List.{length-set}
use Rattle.amh_bits.specs.Patterns.{nat_bit, int_bit}
use Rattle.amh_bits.proofs.BitsOf.{nat_bit_low}
use Rattle.design_ir.specs.Pools.{Pooled}
use Rattle.design_ir.specs.Values.{signal_form}
use Rattle.design_ir.specs.Targets.{Bit}
use Rattle.design_ir.specs.Put.{put_bit, put_bits}
use Rattle.design_ir.specs.Circuits.{at}
use Rattle.comb_graph.proofs.BitWrites.{cases_bit, bit_written, bit_kept}
use Rattle.comb_graph.proofs.FoundAims.{AreInside}

module _ (p : Pooled) where
  pub put_bits_length : (places : List (Option Bit)) (v i : ℕ) (cur : List ℤ) → length (put_bits p places v i cur) ≡ length cur
  put_bits_length [] v i cur = refl
  put_bits_length (None ∷ places) v i cur = put_bits_length places v (i + 1) cur
  put_bits_length (Some x ∷ places) v i cur = put_bits_length places v (i + 1) (put_bit p x (nat_bit v i) cur) ∙ length-set cur x.sig _

  -- ---- one bit

  module _ (b : Bit) (here : b.index < (signal_form p.signals b.sig).width) where
    abbrev bit : List ℤ → ℕ
    bit cur = int_bit (at cur b.sig) b.index

    -- it stays where none of the places is it
    pub put_bits_kept : (places : List (Option Bit)) (v i : ℕ) (cur : List ℤ) → AreInside p places → length cur ≡ length p.signals → ((j : ℕ) → slice_get places j ≡ Some (Some b) → ⊥) → bit (put_bits p places v i cur) ≡ bit cur
    put_bits_kept [] v i cur inside long none = refl
    put_bits_kept (None ∷ places) v i cur inside long none = put_bits_kept places v (i + 1) cur (λ j. inside (suc j)) long (λ j. none (suc j))
    put_bits_kept (Some x ∷ places) v i cur inside long none =
        put_bits_kept places v (i + 1) (put_bit p x (nat_bit v i) cur) (λ j. inside (suc j)) (length-set cur x.sig _ ∙ long) (λ j. none (suc j))
        ∙ bit_kept p x (nat_bit v i) cur (nat_bit_low v i) (inside 0 x refl) long b here (λ e. none 0 (ap (λ y. Some (Some y)) (sym e)))

    -- one write to two environments
    one_shared : (x : Bit) (m n : ℕ) (cur other : List ℤ) → m < 2 → n < 2 → x.index < (signal_form p.signals x.sig).width → length cur ≡ length p.signals → length other ≡ length p.signals → (b ≡ x → m ≡ n) → bit cur ≡ bit other
        → bit (put_bit p x m cur) ≡ bit (put_bit p x n other)
    one_shared x m n cur other low low' inside long long' same was =
        ⊎_elim
        (λ (e : b ≡ x). bit_written p x m cur low inside long b e ∙ same e ∙ sym (bit_written p x n other low' inside long' b e))
        (λ (e : b ≢ x). bit_kept p x m cur low inside long b here e ∙ was ∙ sym (bit_kept p x n other low' inside long' b here e))
        (cases_bit b x)

    -- two values that have the bits for it in common leave it the same
    pub put_bits_shared : (places : List (Option Bit)) (v w i : ℕ) (cur other : List ℤ) → AreInside p places → length cur ≡ length p.signals → length other ≡ length p.signals
        → ((j : ℕ) → slice_get places j ≡ Some (Some b) → nat_bit v (i + j) ≡ nat_bit w (i + j)) → bit cur ≡ bit other → bit (put_bits p places v i cur) ≡ bit (put_bits p places w i other)
    put_bits_shared [] v w i cur other inside long long' same was = was
    put_bits_shared (None ∷ places) v w i cur other inside long long' same was =
        put_bits_shared places v w (i + 1) cur other (λ j. inside (suc j)) long long' (λ j e. let k : i + suc j ≡ (i + 1) + j = omega arith in rw k at (same (suc j) e)) was
    put_bits_shared (Some x ∷ places) v w i cur other inside long long' same was =
        put_bits_shared places v w (i + 1) (put_bit p x (nat_bit v i) cur) (put_bit p x (nat_bit w i) other) (λ j. inside (suc j)) (length-set cur x.sig _ ∙ long) (length-set other x.sig _ ∙ long')
        (λ j e. let k : i + suc j ≡ (i + 1) + j = omega arith in rw k at (same (suc j) e))
        (one_shared x (nat_bit v i) (nat_bit w i) cur other (nat_bit_low v i) (nat_bit_low w i) (inside 0 x refl) long long'
        (λ e. let k : i + 0 ≡ i = omega arith in rw k at (same 0 (ap (λ y. Some (Some y)) (sym e)))) was)
