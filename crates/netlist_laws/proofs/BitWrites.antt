-- The bits of a signal's number after one of its bits is written.
use Rattle.std.specs.Prelude.{◌≡◌, ◌≢◌, ℕ, zero, suc, ◌+◌, ◌-◌, ◌*◌, ◌/◌, ◌%◌, ◌^◌, ◌<◌, ◌≤◌, Bool, List, [], ◌∷◌, length, ℤ, pos}
use Rattle.std.proofs.Common.{sym, ◌∙◌, ap, arith, ⊎_elim}
use Rattle.std.proofs.lemmas.Bool.{cases_lt}
use Rattle.std.proofs.lemmas.Nat.{pow_pos, mod_below}
use Rattle.std.proofs.Math.Nat.{div-one}
use Rattle.std.proofs.lemmas.List.{get_or-set_same, get_or-set_other}
use Rattle.amh_bits.specs.Patterns.{pattern, number, nat_bit, int_bit}
use Rattle.amh_bits.proofs.BitsOf.{bit_pattern, nat_bit_mod, int_bit_down, nat_bit_joined_low, nat_bit_joined_high}
use Rattle.amh_bits.proofs.Wraps.{pattern_below, pattern_number}
use Rattle.shape_rules.specs.Forms.{Form}
use Rattle.design_ir.specs.declared.signal.Sig.{Sig}
use Rattle.design_ir.specs.Pools.{Pooled}
use Rattle.design_ir.specs.Values.{signal_form}
use Rattle.design_ir.specs.Targets.{Bit}
use Rattle.design_ir.specs.Put.{with_bit, put_bit}
use Rattle.design_ir.specs.Circuits.{at}
use Rattle.design_ir.proofs.Whole.{low_small, with_below}

-- ---- one bit above others

above : (high low j k : ℕ) → low < 2 ^ j → nat_bit (high * 2 ^ j + low) (j + k) ≡ nat_bit high k
above high low j k small =
    nat_bit_joined_high (record { width = j; bits = low }) (record { width = 0; bits = high }) k small

beneath : (high low j k : ℕ) → low < 2 ^ j → k < j → nat_bit (high * 2 ^ j + low) k ≡ nat_bit low k
beneath high low j k small h =
    nat_bit_joined_low (record { width = j; bits = low }) (record { width = 0; bits = high }) k small h

divided : (n j k : ℕ) → nat_bit (n / 2 ^ j) k ≡ nat_bit n (j + k)
divided n j k = int_bit_down (pos n) j k

one_bit : (b : ℕ) → b < 2 → nat_bit b 0 ≡ b
one_bit b h = ap (λ n. n % 2) (div-one b) ∙ (let e : b % 2 ≡ b = omega arith in e)

pub nat_bit-with_bit_same : (j b bits : ℕ) → b < 2 → nat_bit (with_bit j b bits) j ≡ b
nat_bit-with_bit_same j b bits h =
    let low : ℕ = b * 2 ^ j + bits % 2 ^ j in
    beneath (bits / 2 ^ (j + 1)) low (j + 1) j (low_small j b bits h) (omega arith)
    ∙ ap (nat_bit low) (let e : j ≡ j + 0 = omega arith in e)
    ∙ above b (bits % 2 ^ j) j 0 (mod_below bits (2 ^ j) (pow_pos j))
    ∙ one_bit b h

pub nat_bit-with_bit_other : (j b bits i : ℕ) → b < 2 → i ≢ j → nat_bit (with_bit j b bits) i ≡ nat_bit bits i
nat_bit-with_bit_other j b bits i h apart =
    let low : ℕ = b * 2 ^ j + bits % 2 ^ j in
    let high : ℕ = bits / 2 ^ (j + 1) in
    ⊎_elim
    (λ (under : i < j).
    beneath high low (j + 1) i (low_small j b bits h) (omega arith)
    ∙ beneath b (bits % 2 ^ j) j i (mod_below bits (2 ^ j) (pow_pos j)) under
    ∙ nat_bit_mod bits j i under)
    (λ (over : j ≤ i).
    let e : i ≡ (j + 1) + (i - suc j) = omega (arith, apart) in
    ap (nat_bit (with_bit j b bits)) e
    ∙ above high low (j + 1) (i - suc j) (low_small j b bits h)
    ∙ divided bits (j + 1) (i - suc j)
    ∙ ap (nat_bit bits) (sym e))
    (cases_lt i j)

-- ---- the numbers of signals

pub int_bit-number : (signed : Bool) (width bits i : ℕ) → bits < 2 ^ width → i < width → int_bit (number signed width bits) i ≡ nat_bit bits i
int_bit-number signed width bits i small h =
    sym (bit_pattern (number signed width bits) width i h) ∙ ap (λ n. nat_bit n i) (pattern_number signed width bits small)

-- a signal with bits is there
pub some_signal : (sigs : List Sig) (s : ℕ) → 1 ≤ (signal_form sigs s).width → s < length sigs
some_signal [] s h = absurd (omega arith)
some_signal (x ∷ sigs) zero h = omega arith
some_signal (x ∷ sigs) (suc s) h = omega (arith, some_signal sigs s h)

module _ (pool : Pooled) (x : Bit) (b : ℕ) (cur : List ℤ) (low : b < 2) (inside : x.index < (signal_form pool.signals x.sig).width) where
  pub at-put_bit_other : (s : ℕ) → s ≢ x.sig → at (put_bit pool x b cur) s ≡ at cur s
  at-put_bit_other s apart = get_or-set_other cur x.sig s _ (pos 0) apart

  written : (i : ℕ) → x.sig < length cur → i < (signal_form pool.signals x.sig).width
      → int_bit (at (put_bit pool x b cur) x.sig) i ≡ nat_bit (with_bit x.index b (pattern (signal_form pool.signals x.sig).width (at cur x.sig))) i
  written i there h =
      let f : Form = signal_form pool.signals x.sig in
      let old : ℕ = pattern f.width (at cur x.sig) in
      ap (λ z. int_bit z i) (get_or-set_same cur x.sig (number f.signed f.width (with_bit x.index b old)) (pos 0) there)
      ∙ int_bit-number f.signed f.width (with_bit x.index b old) i (with_below x.index b old f.width low inside (pattern_below f.width (at cur x.sig))) h

  pub int_bit-put_bit_same : x.sig < length cur → int_bit (at (put_bit pool x b cur) x.sig) x.index ≡ b
  int_bit-put_bit_same there =
      written x.index there inside ∙ nat_bit-with_bit_same x.index b (pattern (signal_form pool.signals x.sig).width (at cur x.sig)) low

  pub int_bit-put_bit_other : (i : ℕ) → x.sig < length cur → i < (signal_form pool.signals x.sig).width → i ≢ x.index → int_bit (at (put_bit pool x b cur) x.sig) i ≡ int_bit (at cur x.sig) i
  int_bit-put_bit_other i there h apart =
      let w : ℕ = (signal_form pool.signals x.sig).width in
      written i there h
      ∙ nat_bit-with_bit_other x.index b (pattern w (at cur x.sig)) i low apart
      ∙ bit_pattern (at cur x.sig) w i h
