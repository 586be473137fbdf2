-- Runs of digits and what they spell.
use Rattle.std.proofs.Common.{ℕ, ◌<◌, ◌≤◌, IsTrue, List, [], ◌∷◌, length, slice_index, arith}
use Rattle.py_lexer.specs.Numbers.{is_digit, run_width, next_value, value_from}

next_value_grows : (base n c : ℕ) → 1 ≤ base → n ≤ next_value base n c
next_value_grows base n c h = grind arith

-- what the digits spell only grows
pub value_from_grows : (base n : ℕ) (cs : List ℕ) → 1 ≤ base → n ≤ value_from base n cs
unfolding value_from
value_from_grows base n [] h = omega arith
value_from_grows base n (c ∷ cs) h = omega (arith, next_value_grows base n c h, value_from_grows base (next_value base n c) cs h)

-- a run that begins with a digit takes a character
pub run_width_begins : (base : ℕ) (cs : List ℕ) → 0 < length cs → IsTrue (is_digit base (slice_index cs 0)) → 0 < run_width base cs
unfolding run_width
run_width_begins base [] h d = absurd (omega arith)
run_width_begins base (c ∷ cs) h d = grind arith
