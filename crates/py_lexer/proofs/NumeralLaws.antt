-- Each number that is cut is one.
use Rattle.std.proofs.Common.{◌≡◌, ℕ, suc, true, ◌+◌, ◌<◌, ◌≤◌, ◌^◌, ◌&&◌, List, [], ◌∷◌, take, drop, refl, sym, subst, arith, cond, inl, inr, slice_index}
use Rattle.std.specs.Prelude.{nat_lt, ◌==◌}
use Rattle.std.proofs.lemmas.Bool.{cond_both, cond-true, eqb-true, eqb-false, ltb-true, and_parts, or_cases, or_left}
use Rattle.py_lexer.specs.declared.numbers.Numeral.{Numeral}
use Rattle.py_lexer.specs.Numbers.{is_digit, is_run, run_width, value_from, named_base, numeral_by, numeral_of, digits_of}
use Rattle.py_lexer.specs.Grammar.{IsGrouped, single, digit, apart, IsNumber, nothing, decimal, based}

pub run_more : (base c : ℕ) (cs : List ℕ) → is_digit base c ≡ true → run_width base (c ∷ cs) ≡ suc (run_width base cs)
unfolding run_width
run_more base c cs h = cond-true (is_run base c cs) _ _ (or_left (is_digit base c) _ h)

-- NUL is no digit
nul_no_digit : (base : ℕ) → base ≤ 16 → is_digit base 0 ≡ true → ⊥
nul_no_digit base l h = absurd (omega (arith, ltb-true 36 base h))

-- a digit and the run behind it
pub grouped_from : (base c : ℕ) (cs : List ℕ) → base ≤ 16 → is_digit base c ≡ true → IsGrouped base (c ∷ take (run_width base cs) cs)
unfolding run_width
grouped_from base c [] l h = single c h
grouped_from base c (d ∷ []) l h =
    cond_both (is_run base d []) 1 0 (λ n. IsGrouped base (c ∷ take n (d ∷ [])))
    (λ r. elim (or_cases (is_digit base d) ((d == 95) && is_digit base 0) r) as (λ _. IsGrouped base (c ∷ d ∷ [])) [
      | inl t ↦ digit c (d ∷ []) h (single d t)
      | inr t ↦ absurd (nul_no_digit base l (and_parts (d == 95) (is_digit base 0) t).1)
    ])
    (λ _. single c h)
grouped_from base c (d ∷ e ∷ es) l h =
    cond_both (is_run base d (e ∷ es)) (suc (run_width base (e ∷ es))) 0 (λ n. IsGrouped base (c ∷ take n (d ∷ e ∷ es)))
    (λ r. elim (or_cases (is_digit base d) ((d == 95) && is_digit base e) r) as (λ _. IsGrouped base (c ∷ d ∷ take (run_width base (e ∷ es)) (e ∷ es))) [
      | inl t ↦ digit c (d ∷ take (run_width base (e ∷ es)) (e ∷ es)) h (grouped_from base d (e ∷ es) l t)
      | inr t ↦
          let both = and_parts (d == 95) (is_digit base e) t in
          let all : IsGrouped base (c ∷ 95 ∷ take (suc (run_width base es)) (e ∷ es)) = apart c (e ∷ take (run_width base es) es) h (grouped_from base e es l both.1) in
          subst (λ x. IsGrouped base (c ∷ x ∷ take (run_width base (e ∷ es)) (e ∷ es))) (sym (eqb-true d 95 both.0))
          (subst (λ n. IsGrouped base (c ∷ 95 ∷ take n (e ∷ es))) (sym (run_more base e es both.1)) all)
    ])
    (λ _. single c h)

named_base_small : (c : ℕ) → named_base c ≤ 16
named_base_small c =
    cond_both (c == 120) 16 (cond (c == 111) 8 (cond (c == 98) 2 0)) (λ n. n ≤ 16) (λ _. omega arith)
    (λ _. cond_both (c == 111) 8 (cond (c == 98) 2 0) (λ n. n ≤ 16) (λ _. omega arith)
    (λ _. cond_both (c == 98) 2 0 (λ n. n ≤ 16) (λ _. omega arith) (λ _. omega arith)))

abbrev NumberAt : List ℕ → Numeral → Type 0
NumberAt cs n = nat_lt (value_from n.base 0 (digits_of n cs)) (2 ^ 128) ≡ true → IsNumber (take n.width cs)

based_at : (base : ℕ) (cs : List ℕ) → named_base (slice_index cs 0) ≡ base → 0 < base → is_digit base (slice_index cs 1) ≡ true → NumberAt (48 ∷ cs) (record { base = base; prefix = 2; width = 2 + run_width base (drop 1 cs) })
based_at base [] e p d v = absurd (nul_no_digit base (subst (λ b. b ≤ 16) e (named_base_small 0)) d)
based_at base (letter ∷ []) e p d v = absurd (nul_no_digit base (subst (λ b. b ≤ 16) e (named_base_small letter)) d)
based_at base (letter ∷ x ∷ xs) e p d v =
    let width : suc (suc (suc (run_width base xs))) ≡ 2 + run_width base (x ∷ xs) = omega (arith, run_more base x xs d) in
    let small : base ≤ 16 = subst (λ b. b ≤ 16) e (named_base_small letter) in
    let P : ℕ → Type 0 = λ w. nat_lt (value_from base 0 (drop 2 (take w (48 ∷ letter ∷ x ∷ xs)))) (2 ^ 128) ≡ true → IsNumber (take w (48 ∷ letter ∷ x ∷ xs)) in
    let ds = x ∷ take (run_width base xs) xs in
    let Q : ℕ → Type 0 = λ b. 0 < b → IsGrouped b ds → value_from b 0 ds < 2 ^ 128 → IsNumber (48 ∷ letter ∷ ds) in
    subst P width (λ v. subst Q e (based letter ds) p (grouped_from base x xs small d) (ltb-true _ _ v)) v

-- the number at the front
pub numeral_sound : (c : ℕ) (cs : List ℕ) → is_digit 10 c ≡ true → NumberAt (c ∷ cs) (numeral_of (c ∷ cs))
unfolding numeral_of
numeral_sound c cs d =
    cond_both (c == 48) (numeral_by (named_base (slice_index cs 0)) (c ∷ cs)) (record { base = 10; prefix = 0; width = run_width 10 (c ∷ cs) }) (NumberAt (c ∷ cs))
    (λ e. subst (λ x. NumberAt (x ∷ cs) (numeral_by (named_base (slice_index cs 0)) (x ∷ cs))) (sym (eqb-true c 48 e)) zeros)
    (λ e.
    let P : ℕ → Type 0 = λ w. nat_lt (value_from 10 0 (take w (c ∷ cs))) (2 ^ 128) ≡ true → IsNumber (take w (c ∷ cs)) in
    subst P (sym (run_more 10 c cs d)) (λ v. decimal (c ∷ take (run_width 10 cs) cs) (grouped_from 10 c cs (omega arith) d) (eqb-false c 48 e) (ltb-true _ _ v)))
  where
    zeros : NumberAt (48 ∷ cs) (numeral_by (named_base (slice_index cs 0)) (48 ∷ cs))
    zeros =
        let base = named_base (slice_index cs 0) in
        cond_both (nat_lt 0 base && is_digit base (slice_index cs 1)) (record { base = base; prefix = 2; width = 2 + run_width base (drop 1 cs) }) (record { base = 10; prefix = 0; width = 1 }) (NumberAt (48 ∷ cs))
        (λ t. let both = and_parts (nat_lt 0 base) (is_digit base (slice_index cs 1)) t in based_at base cs refl (ltb-true 0 base both.0) both.1)
        (λ _ v. nothing)
