-- Quotients on the way to a time.
-- Internal: no rule of the language.
use Rattle.std.specs.Prelude.{◌≡◌, ℕ, nat_lt, if◌then◌else◌, ℤ, pos, negsuc, Option, Some, None}
use Rattle.py_expressions.specs.declared.times.Exponent.{Exponent}
use Rattle.py_expressions.specs.declared.times.Exponent.TheVariants.{Zeros, Behind}
use Rattle.py_frames.specs.Times.{kept_time}

-- a quotient that 64 bits hold
abbrev pub within_64 : ℕ → Option ℕ
within_64 n = if nat_lt n 18446744073709551616 then Some n else None

abbrev pub kept_of : Option ℕ → Option ℕ
kept_of None = None
kept_of (Some n) = kept_time n

abbrev pub Exponent_is : Exponent → ℤ → Type 0
Exponent_is (Zeros n) e = e ≡ pos n
Exponent_is (Behind n) e = e ≡ negsuc n
