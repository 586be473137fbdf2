-- What patterns mean: laws of the definitions.
use Rattle.std.specs.Prelude.{◌≡◌, ℕ, ◌==◌, ◌&&◌, ◌||◌, Bool, true, if◌then◌else◌, ℤ, List, [], ◌∷◌, length, Some}
use Rattle.std.specs.List.{list_any}
use Rattle.std.specs.Ordering.{int_eq}
use Rattle.amh_bits.specs.Patterns.{IsOf, pattern, nat_bit}
use Rattle.shape_rules.specs.Forms.{Form}
use Rattle.design_ir.specs.Values.{matches}
use Rattle.amh_things.specs.Patterns.{is_any_sign, is_one_sign, signs, text_pattern, number_patterns}

-- whether a bit is what a sign says
abbrev pub sign_fits : ℕ → ℕ → Bool
sign_fits c b = is_any_sign c || (b == (if is_one_sign c then 1 else 0))

-- whether the bits of a number are what signs say, the first sign of the highest bit
abbrev pub signs_fit : List ℕ → ℕ → Bool
signs_fit [] n = true
signs_fit (c ∷ cs) n = sign_fits c (nat_bit n (length cs)) && signs_fit cs n

-- a text matches exactly the numbers whose bits are what its signs say
abbrev pub TextsMatch : Type 0
TextsMatch = (text : List ℕ) (n : ℕ) → matches (text_pattern text) n ≡ signs_fit (signs text) n

-- of the numbers of a shape an integer matches itself and no other one, whether the shape holds it or not
abbrev pub IntegersMatch : Type 0
IntegersMatch = (f : Form) (n x : ℤ) → IsOf f.signed f.width x → list_any (λ p. matches p (pattern f.width x)) (number_patterns f (Some n)) ≡ int_eq x n
