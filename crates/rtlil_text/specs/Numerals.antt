-- Numbers in decimal, however large they are.
-- Source: Yosys manual, RTLIL text representation: Values.
use Rattle.std.specs.Prelude.{ℕ, suc, false, List, []}
use Rattle.std.specs.Fmt.{digits_onto}

-- all digits of a number, the highest first: it has at most as many as it counts, and one more
unfoldable pub numeral : ℕ → List ℕ
numeral n = digits_onto (suc n) 10 false n []
