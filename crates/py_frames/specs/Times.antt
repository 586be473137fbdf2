-- Times: seconds as whole femtoseconds, rounded down to an even number.
-- Source: this project's own rule (docs/RULES.md).
use Rattle.std.specs.Prelude.{ℕ, zero, suc, ◌*◌, ◌/◌, ◌-◌, ◌%◌, ◌^◌, nat_lt, if◌then◌else◌, ℤ, pos, negsuc, Option, Some, None}
use Rattle.py_tree.specs.declared.number.Decimal.{Decimal}
use Rattle.py_tree.specs.declared.number.Amount.{Amount}
use Rattle.py_tree.specs.declared.number.Amount.TheVariants as amount

-- so many times ten to the exponent, as a quotient of two whole numbers
pub record Ratio : Type 0 where
  pub above : ℕ
  pub below : ℕ

abbrev pub scaled : ℕ → ℤ → Ratio
scaled n (pos e) = record { above = n * 10 ^ e; below = 1 }
scaled n (negsuc e) = record { above = n; below = 10 ^ suc e }

abbrev pub ratio_of : Decimal → Ratio
ratio_of d = scaled d.digits d.exponent

abbrev pub amount_ratio : Amount → Ratio
amount_ratio (amount.Number n) = record { above = n; below = 1 }
amount_ratio (amount.Decimal d) = ratio_of d

-- a time below 2^63 femtoseconds
abbrev pub kept_time : ℕ → Option ℕ
kept_time n = if nat_lt (n - n % 2) (2 ^ 63) then Some (n - n % 2) else None

abbrev pub quotient_time : ℕ → ℕ → Option ℕ
quotient_time above zero = None
quotient_time above (suc below) = kept_time ((above * 10 ^ 15) / suc below)

-- so many seconds, as femtoseconds
abbrev pub decimal_time : Decimal → Option ℕ
decimal_time d = quotient_time (ratio_of d).above (ratio_of d).below

-- a whole number of seconds by an amount
abbrev pub divided_time : ℕ → Amount → Option ℕ
divided_time n a = quotient_time (n * (amount_ratio a).below) (amount_ratio a).above
