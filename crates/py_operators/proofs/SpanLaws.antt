-- The steps of a way, and the numbers that steps lead to.
use Rattle.std.proofs.Common.{◌≡◌, ℕ, ◌+◌, ◌*◌, ◌/◌, ◌%◌, ◌≤◌, ◌<◌, min, inl, inr, arith}
use Rattle.std.specs.Int.{div_ceil}
use Rattle.std.proofs.Math.Nat.{mul-le-mul_right}
use Rattle.std.proofs.lemmas.Nat.{div-add-mod'}
use Rattle.std.proofs.lemmas.Bool.{cases_lt}
use Rattle.std.proofs.lemmas.Grind.{div_ceil_times}

-- ---- steps are counted up

-- so many steps end before the way does exactly where they are fewer
pub below_div_ceil : (i d s : ℕ) → 0 < s → i < div_ceil d s → i * s < d
below_div_ceil i d s p h =
    let b : (d / s + min 1 (d % s)) * s < d + s = (div_ceil_times d s p).1 in
    let m : (i + 1) * s ≤ (d / s + min 1 (d % s)) * s = mul-le-mul_right s (omega arith) in
    omega (arith, b, m)

pub div_ceil_below : (i d s : ℕ) → 0 < s → i * s < d → i < div_ceil d s
div_ceil_below i d s p h =
    let b : d ≤ (d / s + min 1 (d % s)) * s = (div_ceil_times d s p).0 in
    elim (cases_lt i (div_ceil d s)) [
      | inl l ↦ l
      | inr l ↦
          let m : (d / s + min 1 (d % s)) * s ≤ i * s = mul-le-mul_right s l in
          absurd (omega (arith, b, m))
    ]

pub div_ceil_is : (a b c : ℕ) → 0 < b → a ≤ c * b → c * b < a + b → div_ceil a b ≡ c
div_ceil_is a b c p l h =
    let f : div_ceil a b * b < a + b = (div_ceil_times a b p).1 in
    let g : a ≤ div_ceil a b * b = (div_ceil_times a b p).0 in
    elim (cases_lt (div_ceil a b) c) [
      | inl q ↦
          let m : (div_ceil a b + 1) * b ≤ c * b = mul-le-mul_right b (omega arith) in
          absurd (omega (arith, g, m))
      | inr q ↦
          elim (cases_lt c (div_ceil a b)) [
            | inl r ↦
                let m : (c + 1) * b ≤ div_ceil a b * b = mul-le-mul_right b (omega arith) in
                absurd (omega (arith, f, m))
            | inr r ↦ omega arith
          ]
    ]

parts_above : (a b s q r x y c : ℕ) → q * s + x ≡ a → r * s + y ≡ b → x + y ≤ c * s → a + b ≤ (q + r + c) * s
parts_above a b s q r x y c e f h = omega arith

parts_below : (a b s q r x y c : ℕ) → q * s + x ≡ a → r * s + y ≡ b → c * s < (x + y) + s → (q + r + c) * s < (a + b) + s
parts_below a b s q r x y c e f h = omega arith

-- the whole steps of two parts, and the steps of what is left of both
pub div_ceil_parts : (a b s : ℕ) → 0 < s → div_ceil (a + b) s ≡ a / s + b / s + div_ceil (a % s + b % s) s
div_ceil_parts a b s p =
    let x : a / s * s + a % s ≡ a = div-add-mod' a s in
    let y : b / s * s + b % s ≡ b = div-add-mod' b s in
    let f : div_ceil (a % s + b % s) s * s < (a % s + b % s) + s = (div_ceil_times (a % s + b % s) s p).1 in
    let g : a % s + b % s ≤ div_ceil (a % s + b % s) s * s = (div_ceil_times (a % s + b % s) s p).0 in
    div_ceil_is (a + b) s (a / s + b / s + div_ceil (a % s + b % s) s) p (parts_above a b s _ _ _ _ _ x y g) (parts_below a b s _ _ _ _ _ x y f)
