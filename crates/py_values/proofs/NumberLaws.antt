-- Integers that may leave the range.
use Rattle.std.proofs.Common.{◌≡◌, ℕ, ◌<◌, ◌^◌, ℤ, pos, negsuc, Bool, true, false, Result, Ok, Err, refl, arith, ap, sym, ◌∙◌}
use Rattle.std.proofs.lemmas.Bool.Decides.{nat_tests}
use Rattle.std.specs.Prelude.{nat_lt, OkIff}
use Rattle.amh_bits.specs.Integers.{IsKept}
use Rattle.amh_bits.specs.declared.int.TooWide.{TooWide}
use Rattle.py_values.specs.Numbers.{is_kept, kept}
use Rattle.py_values.specs.Widened.{widened}
use Rattle.std.specs.Prelude.{if◌then◌else◌}

pub is_kept_where : (z : ℤ) → IsKept z → is_kept z ≡ true
is_kept_where (pos n) h = grind (arith, nat_tests)
is_kept_where (negsuc n) h = grind (arith, nat_tests)

pub is_kept_not : (z : ℤ) → (IsKept z → ⊥) → is_kept z ≡ false
is_kept_not (pos n) h = grind (arith, nat_tests)
is_kept_not (negsuc n) h = grind (arith, nat_tests)

pub widened_is : (r : Result ℤ TooWide) (z : ℤ) → OkIff r (IsKept z) z → widened r ≡ kept z
widened_is (Ok n) z h = rw (is_kept_where z h.0) (rw h.1 refl)
widened_is (Err e) z h = rw (is_kept_not z h) refl
