-- A number put into all bits of a signal is the number of the signal's shape.
use Rattle.std.proofs.Common.{◌≡◌, ℕ, zero, suc, ◌+◌, ◌-◌, ◌*◌, ◌<◌, ◌^◌, ◌/◌, ◌%◌, ℤ, pos, List, [], ◌∷◌, map, length, get_or, set, refl, sym, ap, ◌∙◌, arith, slice_index_or, slice_set, Some}
use Rattle.std.specs.List.{range_with_len}
use Rattle.std.proofs.lemmas.Nat.{pow_pos, mod_below, mod-pow-add, mod-mul-add, pow-add, shr_below, mul-add-lt, mul-le}
use Rattle.std.proofs.lemmas.List.{get_or-set_same, set-get_or}
use Rattle.std.proofs.Math.Nat.{mod-eq_of_lt}
use Rattle.amh_bits.proofs.Wraps.{pattern_number, number_pattern, pattern_below}
use Rattle.amh_bits.specs.Patterns.{pattern, number, nat_bit, IsOf, wrap}
use Rattle.shape_rules.specs.Forms.{Form}
use Rattle.design_ir.specs.Pools.{Pooled}
use Rattle.design_ir.specs.Values.{signal_form}
use Rattle.design_ir.specs.Targets.{bits_of}
use Rattle.design_ir.specs.Put.{with_bit, put_bit, put_bits, put_number}

pub low_small : (i b bits : ℕ) → b < 2 → b * 2 ^ i + bits % 2 ^ i < 2 ^ (i + 1)
low_small i b bits h = omega (arith, mul-le b (2 ^ i) 1 (2 ^ i) (omega arith) (omega arith), mod_below bits (2 ^ i) (pow_pos i), pow-add 2 i 1)

-- the low bits of a pattern with bit i written
with_low : (i b bits : ℕ) → b < 2 → with_bit i b bits % 2 ^ (i + 1) ≡ b * 2 ^ i + bits % 2 ^ i
with_low i b bits h = mod-mul-add (bits / 2 ^ (i + 1)) (2 ^ (i + 1)) (b * 2 ^ i + bits % 2 ^ i) (low_small i b bits h)

pub with_below : (i b bits width : ℕ) → b < 2 → i < width → bits < 2 ^ width → with_bit i b bits < 2 ^ width
with_below i b bits width h below small =
    let e : width ≡ (width - suc i) + (i + 1) = omega arith in
    let high : bits / 2 ^ (i + 1) < 2 ^ (width - suc i) = shr_below bits (width - suc i) (i + 1) (rw e at small) in
    let p : 2 ^ width ≡ 2 ^ (i + 1) * 2 ^ (width - suc i) = ap (λ w. 2 ^ w) (e ∙ omega arith) ∙ pow-add 2 (i + 1) (width - suc i) in
    rw p (mul-add-lt (bits / 2 ^ (i + 1)) (2 ^ (i + 1)) (b * 2 ^ i + bits % 2 ^ i) (2 ^ (width - suc i)) high (low_small i b bits h))

-- one bit more of v is there
next_bit : (i v bits : ℕ) → bits % 2 ^ i ≡ v % 2 ^ i → with_bit i (nat_bit v i) bits % 2 ^ (i + 1) ≡ v % 2 ^ (i + 1)
next_bit i v bits e = with_low i (nat_bit v i) bits (mod_below (v / 2 ^ i) 2 (omega arith)) ∙ ap (λ x. nat_bit v i * 2 ^ i + x) e ∙ sym (ap (λ j. v % 2 ^ j) (omega arith) ∙ mod-pow-add v 1 i)

set_twice : {A : Type 0} (xs : List A) (i : ℕ) (a b : A) → set (set xs i a) i b ≡ set xs i b
set_twice [] i a b = refl
set_twice (x ∷ xs) zero a b = refl
set_twice (x ∷ xs) (suc i) a b = ap (λ ys. x ∷ ys) (set_twice xs i a b)

module _ (pool : Pooled) (s : ℕ) (cur : List ℤ) (inside : s < length cur) (v : ℕ) where
  f : Form
  f = signal_form pool.signals s

  -- the signal at a pattern
  at_pattern : ℕ → List ℤ
  at_pattern bits = slice_set cur s (number f.signed f.width bits)

  one_bit : (i bits : ℕ) → bits < 2 ^ f.width → put_bit pool record { sig = s; index = i } (nat_bit v i) (at_pattern bits) ≡ at_pattern (with_bit i (nat_bit v i) bits)
  unfolding f at_pattern
  one_bit i bits small =
      let g : Form = signal_form pool.signals s in
      let read : get_or (set cur s (number g.signed g.width bits)) s (pos 0) ≡ number g.signed g.width bits = get_or-set_same cur s (number g.signed g.width bits) (pos 0) inside in
      ap (λ x. set (set cur s (number g.signed g.width bits)) s (number g.signed g.width (with_bit i (nat_bit v i) (pattern g.width x)))) read
      ∙ ap (λ x. set (set cur s (number g.signed g.width bits)) s (number g.signed g.width (with_bit i (nat_bit v i) x))) (pattern_number g.signed g.width bits small)
      ∙ set_twice cur s (number g.signed g.width bits) (number g.signed g.width (with_bit i (nat_bit v i) bits))

  rest_bits : (k i bits : ℕ) → i + k ≡ f.width → bits < 2 ^ f.width → v < 2 ^ f.width → bits % 2 ^ i ≡ v % 2 ^ i → put_bits pool (map (λ b. Some b) (map (λ j. record { sig = s; index = j }) (range_with_len i k))) v i (at_pattern bits) ≡ at_pattern v
  rest_bits zero i bits e small most low =
      let w : i ≡ f.width = omega arith in
      ap at_pattern (sym (mod-eq_of_lt small) ∙ ap (λ j. bits % 2 ^ j) (sym w) ∙ low ∙ ap (λ j. v % 2 ^ j) w ∙ mod-eq_of_lt most)
  rest_bits (suc k) i bits e small most low =
      ap (put_bits pool (map (λ b. Some b) (map (λ j. record { sig = s; index = j }) (range_with_len (i + 1) k))) v (i + 1)) (one_bit i bits small)
      ∙ rest_bits k (i + 1) (with_bit i (nat_bit v i) bits) (omega arith) (with_below i (nat_bit v i) bits f.width (mod_below (v / 2 ^ i) 2 (omega arith)) (omega arith) small) most (next_bit i v bits low)

range_length : (a n : ℕ) → length (range_with_len a n) ≡ n
range_length a zero = refl
range_length a (suc n) = ap suc (range_length (a + 1) n)

map_length : {A B : Type 0} (g : A → B) (xs : List A) → length (map g xs) ≡ length xs
map_length g [] = refl
map_length g (x ∷ xs) = ap suc (map_length g xs)

-- a number put into a whole signal is wrapped to its shape
pub put_whole : (pool : Pooled) (s : ℕ) (cur : List ℤ) (n : ℤ) → s < length cur → IsOf (signal_form pool.signals s).signed (signal_form pool.signals s).width (slice_index_or cur s (pos 0)) → put_number pool (map (λ b. Some b) (bits_of s (signal_form pool.signals s).width)) n cur ≡ slice_set cur s (wrap (signal_form pool.signals s).signed (signal_form pool.signals s).width n)
unfolding f at_pattern
put_whole pool s cur n inside fits =
    let g : Form = signal_form pool.signals s in
    let p : ℕ = pattern g.width (slice_index_or cur s (pos 0)) in
    let same : cur ≡ slice_set cur s (number g.signed g.width p) = sym (set-get_or cur s (pos 0)) ∙ ap (λ x. set cur s x) (sym (number_pattern g.signed g.width _ fits)) in
    let len : length (map (λ b. Some b) (bits_of s g.width)) ≡ g.width = map_length _ (bits_of s g.width) ∙ map_length _ (range_with_len 0 g.width) ∙ range_length 0 g.width in
    ap (λ w. put_bits pool (map (λ b. Some b) (bits_of s g.width)) (pattern w n) 0 cur) len
    ∙ ap (put_bits pool (map (λ b. Some b) (bits_of s g.width)) (pattern g.width n) 0) same
    ∙ rest_bits pool s cur inside (pattern g.width n) g.width 0 p (omega arith) (pattern_below g.width _) (pattern_below g.width n) (omega (arith, mod_below p 1 (omega arith), mod_below (pattern g.width n) 1 (omega arith)))
