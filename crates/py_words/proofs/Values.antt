-- What digits spell only grows.
use Rattle.std.proofs.Common.{ℕ, ◌≤◌, List, [], ◌∷◌, arith}
use Rattle.py_lexer.specs.Numbers.{next_value, value_from}

next_value_grows : (base n c : ℕ) → 1 ≤ base → n ≤ next_value base n c
next_value_grows base n c h = grind arith

pub value_from_grows : (base n : ℕ) (cs : List ℕ) → 1 ≤ base → n ≤ value_from base n cs
unfolding value_from
value_from_grows base n [] h = omega arith
value_from_grows base n (c ∷ cs) h = omega (arith, next_value_grows base n c h, value_from_grows base (next_value base n c) cs h)
