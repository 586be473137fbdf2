-- Rows that are repeated.
use Rattle.std.proofs.Common.{◌≡◌, ℕ, zero, suc, ◌+◌, ◌-◌, ◌*◌, ◌≤◌, ◌<◌, List, [], ◌∷◌, ◌++◌, length, Result, Ok, Err, refl, arith, ap, sym, ◌∙◌, append_assoc, cond, Bool, true, false, Option, Some, None, ℤ}
use Rattle.std.specs.Prelude.{nat_lt}
use Rattle.std.proofs.lemmas.Bool.Decides.{nat_tests}
use Rattle.std.proofs.lemmas.List.{append-nil}
use Rattle.amh_bits.specs.Integers.{with_sign, IsSignAndSize}
use Rattle.py_values.specs.declared.val.Val.{Val}
use Rattle.py_values.specs.declared.val.ValueStop.{ValueStop}
use Rattle.py_values.specs.declared.val.ValueStop.TheVariants.{Raised, Width, Limit, Spent, NoMemory}
use Rattle.py_heap.specs.declared.fresh.Fresh.{Fresh}
use Rattle.py_values.specs.Runs.{Answers}
use Rattle.py_operators.specs.Sums.{copies, made, repeated, times}

true_or_false : false ≡ true → ⊥
true_or_false e = cc

pub copies_none : (row : List Val) → copies 0 row ≡ []
unfolding copies
copies_none row = refl

copies_suc : (n : ℕ) (row : List Val) → copies (suc n) row ≡ row ++ copies n row
unfolding copies
copies_suc n row = refl

pub copies_empty : (n : ℕ) → copies n [] ≡ []
unfolding copies
copies_empty zero = refl
copies_empty (suc n) = copies_empty n

-- a turn of the loop that joins the copies
pub copies_turn : (all row : List Val) (n i : ℕ) → i < n → all ++ copies (n - i) row ≡ (all ++ row) ++ copies (n - (i + 1)) row
copies_turn all row n i h =
    let e : n - i ≡ suc (n - (i + 1)) = omega arith in
    rw e (ap (λ xs. all ++ xs) (copies_suc (n - (i + 1)) row) ∙ sym (append_assoc all row (copies (n - (i + 1)) row)))

pub copies_end : (all row : List Val) (n i : ℕ) → n ≤ i → all ++ copies (n - i) row ≡ all
copies_end all row n i h =
    let e : n - i ≡ 0 = omega arith in
    rw e (ap (λ xs. all ++ xs) (copies_none row) ∙ append-nil all)

pub ruleset copies_rules = (copies_turn, copies_end)

fits_then : {A : Type 0} (m : ℕ) (x y : A) → m ≤ 65536 → cond (nat_lt 65536 m) x y ≡ y
fits_then m x y h =
    let e : nat_lt 65536 m ≡ false = grind (arith, nat_tests) in
    rw e refl

pub repeated_empty : (row : List Val) (n : Option ℤ) (z : ℤ) (r : List Val) → n ≡ Some z → length row ≡ 0 → r ≡ [] → repeated row n ≡ Ok r
repeated_empty [] n z r h e q = rw (h, q) (fits_then (times z * 0) _ _ (omega arith) ∙ ap Ok (copies_empty (times z)))
repeated_empty (x ∷ row) n z r h e q = absurd (omega arith)

pub repeated_below : (row : List Val) (n : Option ℤ) (z : ℤ) (r : List Val) (negative : Bool) (size : ℕ) → n ≡ Some z → negative ≡ true → IsSignAndSize negative size → with_sign negative size ≡ z → r ≡ [] → repeated row n ≡ Ok r
repeated_below row n z r false size h e k v q = absurd (true_or_false e)
repeated_below row n z r true zero h e k v q = absurd (omega (arith, k.0))
repeated_below row n z r true (suc size) h e k v q = rw (h, ← v, q) (fits_then (0 * length row) _ _ (omega arith) ∙ ap Ok (copies_none row))

pub made_answers : (f : List Val → Fresh) (r : Result (List Val) ValueStop) (owed : Result (List Val) ValueStop) → Answers r owed → Answers (made f r) (made f owed)
made_answers f (Ok x) owed h = rw h refl
made_answers f (Err Raised) owed h = rw h refl
made_answers f (Err Width) owed h = rw h refl
made_answers f (Err Limit) owed h = rw h refl
made_answers f (Err Spent) owed h = h
made_answers f (Err NoMemory) owed h = tt
