-- A number is of the shape that it has as a constant.
use Rattle.std.specs.Prelude.{◌≡◌, refl, ℕ, zero, suc, ◌+◌, ◌*◌, ◌^◌, ◌<◌, ◌≤◌, nat_lt, max, Bool, true, false, ℤ, pos, negsuc, cond}
use Rattle.std.proofs.Common.{ap, arith}
use Rattle.std.proofs.lemmas.Grind.{pow_more}
use Rattle.std.proofs.lemmas.Bool.Decides.{nat_tests}
use Rattle.amh_bits.specs.Integers.{IsKept}
use Rattle.amh_bits.specs.Patterns.{IsOf}
use Rattle.shape_rules.specs.Forms.{IsForm}
use Rattle.py_builtins.specs.Scalars.{first_from, bit_length}
use Rattle.amh_things.specs.Operands.{constant_form}

below : (n m : ℕ) → nat_lt n m ≡ true → n < m
below n m e = grind (arith, nat_tests)

at_least : (n m : ℕ) → nat_lt n m ≡ false → m ≤ n
at_least n m e = grind (arith, nat_tests)

not_at : (n low most : ℕ) → n < 2 ^ most → 2 ^ low ≤ n → low ≡ most → ⊥
not_at n low most small big e = let f = ap (λ k. 2 ^ k) e in omega (arith, f)

-- a width of at most so many bits that a number fits
abbrev Fits : ℕ → ℕ → ℕ → Type 0
Fits most n width = (n < 2 ^ width) × (width ≤ most)

module _ (n most : ℕ) (small : n < 2 ^ most) where
  here : (k rest : ℕ) (b : Bool) → nat_lt n (2 ^ k) ≡ b → k ≤ most → (suc k ≤ most → Fits most n rest) → Fits most n (cond b k rest)
  here k rest true e le h = (below n (2 ^ k) e, le)
  here k rest false e le h = let apart : k ≡ most → ⊥ = not_at n k most small (at_least n (2 ^ k) e) in h (omega (arith, apart))

  first_fits : (count k : ℕ) → k ≤ most → most ≤ k + count → Fits most n (first_from count (λ j. nat_lt n (2 ^ j)) k)
  unfolding first_from
  first_fits zero k le h = let e : most ≡ k = omega (arith, le, h) in (rw (← e) small, le)
  first_fits (suc count) k le h = here k (first_from count (λ j. nat_lt n (2 ^ j)) (k + 1)) (nat_lt n (2 ^ k)) refl le (λ more. first_fits count (k + 1) (omega arith) (omega arith))

pub bit_length-fits : (most n : ℕ) → n < 2 ^ most → most ≤ 128 → (n < 2 ^ bit_length n) × (bit_length n ≤ most)
bit_length-fits most n small le = first_fits n most small 128 0 (omega arith) (omega arith)

one_bit : (n width : ℕ) → n < 2 ^ width → width ≤ 128 → (n < 2 ^ max 1 width) × (max 1 width ≤ 128)
one_bit n zero h le = (omega (arith, h), omega arith)
one_bit n (suc k) h le = let e : max 1 (suc k) ≡ suc k = omega arith in rw e (h, le)

doubled : (n width : ℕ) → n < 2 ^ width → 2 * n + 1 < 2 ^ (width + 1)
doubled n width h = omega (arith, h, pow_more 2 width)

-- a number that is kept is of its shape as a constant, which is one
pub constant_fits : (z : ℤ) → IsKept z → IsForm (constant_form z).width (constant_form z).signed × IsOf (constant_form z).signed (constant_form z).width z
constant_fits (pos n) h = let f = bit_length-fits 128 n h (omega arith) in let g = one_bit n (bit_length n) f.0 f.1 in (g.1, g.0)
constant_fits (negsuc n) h = let f = bit_length-fits 127 n h (omega arith) in ((omega arith, omega (arith, f.1)), doubled n (bit_length n) f.0)
