-- The bits of signals after neighbouring bits of one signal are written.
use Rattle.std.specs.Prelude.{◌≡◌, ◌≢◌, refl, ℕ, zero, suc, ◌+◌, ◌<◌, ◌≤◌, List, map, length, slice_get, ℤ, pos, Option, Some}
use Rattle.std.specs.List.{range_with_len}
use Rattle.std.proofs.Common.{sym, ◌∙◌, ap, arith, subst}
use Rattle.std.proofs.lemmas.List.{length-set, get_or-set_other}
use Rattle.amh_bits.specs.Patterns.{nat_bit, int_bit}
use Rattle.amh_bits.proofs.BitsOf.{nat_bit_low}
use Rattle.design_ir.specs.Pools.{Pooled}
use Rattle.design_ir.specs.Values.{signal_form}
use Rattle.design_ir.specs.Targets.{Bit}
use Rattle.design_ir.specs.Put.{put_bit, put_bits}
use Rattle.design_ir.specs.Circuits.{at}
use Rattle.comb_graph.proofs.BitWrites.{bit_written}
use Rattle.comb_graph.proofs.PlaceWrites.{put_bits_kept}
use Rattle.comb_graph.proofs.FoundAims.{AreInside}

abbrev pub places : ℕ → ℕ → ℕ → List (Option Bit)
places s low n = map (λ i. Some (record { sig = s; index = i })) (range_with_len low n)

place_at : (s low n j : ℕ) (b : Bit) → slice_get (places s low n) j ≡ Some (Some b) → (b ≡ record { sig = s; index = low + j }) × (j < n)
place_at s low zero j b e = cc
place_at s low (suc n) zero b e =
    let same : record { sig = s; index = low } ≡ b = cc in
    let k : low + 0 ≡ low = omega arith in
    (sym same ∙ (λ i. record { sig = s; index = sym k i }), omega arith)
place_at s low (suc n) (suc j) b e =
    let r = place_at s (low + 1) n j b e in
    let k : (low + 1) + j ≡ low + suc j = omega arith in
    (r.0 ∙ (λ i. record { sig = s; index = k i }), omega (arith, r.1))

module _ (p : Pooled) (s : ℕ) where
  inside : (low n : ℕ) → low + n ≤ (signal_form p.signals s).width → AreInside p (places s low n)
  inside low n h j b e =
      let r = place_at s low n j b e in
      let below : low + j < (signal_form p.signals s).width = omega (arith, h, r.1) in
      subst (λ (c : Bit). c.index < (signal_form p.signals c.sig).width) (sym r.0) below

  -- a bit of it before or behind them stays
  pub places_kept : (low n v from i : ℕ) (cur : List ℤ) → low + n ≤ (signal_form p.signals s).width → length cur ≡ length p.signals → i < (signal_form p.signals s).width → ((j : ℕ) → j < n → i ≢ low + j)
      → int_bit (at (put_bits p (places s low n) v from cur) s) i ≡ int_bit (at cur s) i
  places_kept low n v from i cur h long here apart =
      put_bits_kept p record { sig = s; index = i } here (places s low n) v from cur (inside low n h) long
      (λ j e. let r = place_at s low n j record { sig = s; index = i } e in apart j r.1 (ap (λ (b : Bit). b.index) r.0))

  -- other signals stay
  pub places_other : (low n v from u : ℕ) (cur : List ℤ) → u ≢ s → at (put_bits p (places s low n) v from cur) u ≡ at cur u
  places_other low zero v from u cur apart = refl
  places_other low (suc n) v from u cur apart =
      places_other (low + 1) n v (from + 1) u (put_bit p record { sig = s; index = low } (nat_bit v from) cur) apart ∙ get_or-set_other cur s u _ (pos 0) apart

  pub places_length : (low n v from : ℕ) (cur : List ℤ) → length (put_bits p (places s low n) v from cur) ≡ length cur
  places_length low zero v from cur = refl
  places_length low (suc n) v from cur = places_length (low + 1) n v (from + 1) (put_bit p record { sig = s; index = low } (nat_bit v from) cur) ∙ length-set cur s _

  -- one of them has the number's
  pub places_taken : (low n v from j i k : ℕ) (cur : List ℤ) → j < n → i ≡ low + j → k ≡ from + j → low + n ≤ (signal_form p.signals s).width → length cur ≡ length p.signals
      → int_bit (at (put_bits p (places s low n) v from cur) s) i ≡ nat_bit v k
  places_taken low zero v from j i k cur h a b fit long = absurd (omega (arith, h))
  places_taken low (suc n) v from zero i k cur h a b fit long =
      let next : List ℤ = put_bit p record { sig = s; index = low } (nat_bit v from) cur in
      let here : i ≡ low = omega (arith, a) in
      let there : k ≡ from = omega (arith, b) in
      places_kept (low + 1) n v (from + 1) i next (omega (arith, fit)) (length-set cur s _ ∙ long) (omega (arith, fit, a)) (λ j l e. omega (arith, e, here))
      ∙ ap (int_bit (at next s)) here
      ∙ bit_written p record { sig = s; index = low } (nat_bit v from) cur (nat_bit_low v from) (omega (arith, fit)) long record { sig = s; index = low } refl
      ∙ ap (nat_bit v) (sym there)
  places_taken low (suc n) v from (suc j) i k cur h a b fit long =
      places_taken (low + 1) n v (from + 1) j i k (put_bit p record { sig = s; index = low } (nat_bit v from) cur) (omega (arith, h)) (omega (arith, a)) (omega (arith, b)) (omega (arith, fit)) (length-set cur s _ ∙ long)
