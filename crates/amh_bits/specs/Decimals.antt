-- Integers as text.
-- Source: Python library reference, Built-in Functions: str; in traces and scripts: own rule (docs/RULES.md).
use Rattle.std.specs.Prelude.{ℕ, suc, ℤ, pos, negsuc, List, ◌∷◌}
use Rattle.std.specs.Fmt.{decimal}

-- the decimal numeral, after a `-` (45 in ASCII) where negative; negsuc n is -(n + 1)
abbrev pub int_text : ℤ → List ℕ
int_text (pos n) = decimal n
int_text (negsuc n) = 45 ∷ decimal (suc n)
