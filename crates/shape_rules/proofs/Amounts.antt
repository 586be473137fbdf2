-- Amounts of shifts.
use Rattle.std.proofs.Common.{ℕ, suc, ◌<◌, ◌≤◌, ◌^◌, ℤ, pos, negsuc, ◌*ℤ◌, true, false, arith, unsigned_abs, ⊎_elim}
use Rattle.std.proofs.Math.Nat.{pow-le-pow_right}
use Rattle.std.proofs.lemmas.Bool.{cases_lt}
use Rattle.amh_bits.specs.Integers.{IsKept}
use Rattle.amh_bits.proofs.Shifts.{shifted_out, far_out}

-- an amount of eight bits or more can be 255
pub wide_amount : (k : ℕ) → 8 ≤ k → 2 ^ 8 ≤ 2 ^ k
wide_amount k h = pow-le-pow_right {n = 2} (omega arith) h

far_absurd : (x : ℤ) (by : ℕ) → 0 < unsigned_abs x → 128 ≤ by → IsKept (x *ℤ pos (2 ^ by)) → ⊥
far_absurd (pos n) by some far h = shifted_out false n by (far_out n by some far) h
far_absurd (negsuc n) by some far h = shifted_out true (suc n) by (far_out (suc n) by some far) h

-- what stays in the range was shifted by less than 128
pub near : (x : ℤ) (by : ℕ) → 0 < unsigned_abs x → IsKept (x *ℤ pos (2 ^ by)) → by < 128
near x by some h = ⊎_elim (λ close. close) (λ far. absurd (far_absurd x by some far h)) (cases_lt by 128)
