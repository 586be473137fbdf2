-- How far a test passes.
use Rattle.std.proofs.Common.{◌≡◌, ℕ, suc, Bool, true, false, ◌+◌, ◌≤◌, List, [], ◌∷◌, ◌++◌, length, ◌∙◌, arith}
use Rattle.std.specs.List.{list_all, prefix_len}
use Rattle.std.proofs.lemmas.Bool.{cond-true, cond-false, and_parts}
use Rattle.py_lexer.specs.Numbers.{is_digit, digit_count}
use Rattle.py_lexer.proofs.DecimalLaws.{count_prefix}

pub prefix_reach : (p : ℕ → Bool) (xs ys : List ℕ) → list_all p xs ≡ true → length xs ≤ prefix_len p (xs ++ ys)
prefix_reach p [] ys e = omega arith
prefix_reach p (x ∷ xs) ys e =
    let both = and_parts (p x) (list_all p xs) e in
    omega (arith, prefix_reach p xs ys both.1, cond-true (p x) (1 + prefix_len p (xs ++ ys)) 0 both.0)

pub prefix_exact : (p : ℕ → Bool) (xs : List ℕ) (y : ℕ) (ys : List ℕ) → list_all p xs ≡ true → p y ≡ false → prefix_len p (xs ++ y ∷ ys) ≡ length xs
prefix_exact p [] y ys e f = cond-false (p y) (1 + prefix_len p ys) 0 f
prefix_exact p (x ∷ xs) y ys e f =
    let both = and_parts (p x) (list_all p xs) e in
    omega (arith, prefix_exact p xs y ys both.1 f, cond-true (p x) (1 + prefix_len p (xs ++ y ∷ ys)) 0 both.0)

pub count_reach : (base : ℕ) (xs ys : List ℕ) → list_all (is_digit base) xs ≡ true → length xs ≤ digit_count base (xs ++ ys)
count_reach base xs ys e = omega (arith, prefix_reach (is_digit base) xs ys e, count_prefix base (xs ++ ys))

pub count_exact : (base : ℕ) (xs : List ℕ) (y : ℕ) (ys : List ℕ) → list_all (is_digit base) xs ≡ true → is_digit base y ≡ false → digit_count base (xs ++ y ∷ ys) ≡ length xs
count_exact base xs y ys e f = count_prefix base (xs ++ y ∷ ys) ∙ prefix_exact (is_digit base) xs y ys e f

pub count_more : (base d : ℕ) (xs : List ℕ) → is_digit base d ≡ true → digit_count base (d ∷ xs) ≡ suc (digit_count base xs)
count_more base d xs h = omega (arith, count_prefix base (d ∷ xs), count_prefix base xs, cond-true (is_digit base d) (1 + prefix_len (is_digit base) xs) 0 h)

pub count_none : (base d : ℕ) (xs : List ℕ) → is_digit base d ≡ false → digit_count base (d ∷ xs) ≡ 0
count_none base d xs h = count_prefix base (d ∷ xs) ∙ cond-false (is_digit base d) (1 + prefix_len (is_digit base) xs) 0 h
