use Rattle.std.proofs.Common.{◌≡◌, ℕ, suc, ◌<◌, ◌≤◌, List, ◌∷◌, drop, length, get_or, drop-cons, arith, sym, ◌∙◌, ap}
use Rattle.py_lexer.specs.Numbers.{value_from, next_value}
use Rattle.py_lexer.proofs.NumberLaws.{value_from_grows}
use Rattle.py_lexer.proofs.numbers.value.Goals as goal

-- where one digit makes the number too wide, all of them do
overflows : (base n c : ℕ) (xs : List ℕ) (i total limit : ℕ) → 1 ≤ base → i < length xs → c ≡ get_or xs i c → value_from base n (drop i xs) ≡ total → (next_value base n c < limit → ⊥) → total < limit → ⊥
unfolding value_from
overflows base n c xs i total limit h lt is spelled wide narrow =
    let next = next_value base n c in
    let grows = value_from_grows base next (drop (suc i) xs) h in
    let split : drop i xs ≡ c ∷ drop (suc i) xs = drop-cons xs i c lt ∙ ap (λ d. d ∷ drop (suc i) xs) (sym is) in
    let same : value_from base n (drop i xs) ≡ value_from base next (drop (suc i) xs) = ap (value_from base n) split in
    wide (omega (arith, grows, same, spelled))

pub returns-in_default : goal.returns-in_default
returns-in_default c =
    overflows _ _ _ _ c.loop-c.c-index _ _ (omega arith) c.loop-c-test.true c.c-item.is c.loop-c.invariant.spelled c.in_default.ensures
