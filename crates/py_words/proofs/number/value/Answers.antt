use Rattle.std.proofs.Common.{◌≡◌, ℕ, suc, ◌<◌, ◌≤◌, List, drop, length, get_or, drop-cons, arith, ap}
use Rattle.py_lexer.specs.Numbers.{value_from, next_value}
use Rattle.py_words.proofs.Values.{value_from_grows}
use Rattle.py_words.proofs.number.value.Goals as goal

-- where one digit makes the number too wide, all of them do
overflows : (base n : ℕ) (xs : List ℕ) (i total limit : ℕ) → 1 ≤ base → i < length xs → value_from base n (drop i xs) ≡ total → (next_value base n (get_or xs i 0) < limit → ⊥) → total < limit → ⊥
unfolding value_from
overflows base n xs i total limit h lt spelled wide narrow =
    let next = next_value base n (get_or xs i 0) in
    let grows = value_from_grows base next (drop (suc i) xs) h in
    let same : value_from base n (drop i xs) ≡ value_from base next (drop (suc i) xs) = ap (value_from base n) (drop-cons xs i 0 lt) in
    wide (omega (arith, grows, same, spelled))

pub returns-in_default : goal.returns-in_default
returns-in_default c =
    overflows _ _ _ c.loop-byte.byte-index _ _ (omega arith) c.loop-byte-test.true c.loop-byte.invariant.spelled c.in_default.ensures
