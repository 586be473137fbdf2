-- Each sign that is cut is an operator or a delimiter.
use Rattle.std.proofs.Common.{◌≡◌, ℕ, true, false, ◌&&◌, ◌||◌, List, [], ◌∷◌, take, refl, sym, subst, cond, inl, inr, slice_index}
use Rattle.std.specs.Prelude.{nat_lt, ◌==◌, codes}
use Rattle.std.proofs.lemmas.Bool.{cond_both, eqb-true, and_parts, or_cases}
use Rattle.py_lexer.specs.Names.{is_among}
use Rattle.py_lexer.specs.Signs.{is_in, is_sign_of_three, is_sign_of_two, is_sign_of_one, sign_width}
use Rattle.py_lexer.specs.Grammar.{signs}

abbrev pub IsSign : List ℕ → Type 0
IsSign text = is_among signs text ≡ true

-- a fact of each character of a text
abbrev pub Each : (ℕ → Type 0) → List ℕ → Type 0
Each P [] = Unit {0}
Each P (d ∷ ds) = P d × Each P ds

pub is_in_each : (P : ℕ → Type 0) (text : List ℕ) (c : ℕ) → Each P text → is_in text c ≡ true → P c
is_in_each P [] c each e = cc
is_in_each P (d ∷ ds) c each e = elim (or_cases (c == d) (is_in ds c) e) as (λ _. P c) [ inl t ↦ subst P (sym (eqb-true c d t)) each.0 | inr t ↦ is_in_each P ds c each.1 t ]

three : (c d e : ℕ) → is_sign_of_three c d e ≡ true → IsSign (c ∷ d ∷ e ∷ [])
three c d e t =
    let outer = and_parts (is_in (codes "/<>") c && (d == c)) (e == 61) t in
    let inner = and_parts (is_in (codes "/<>") c) (d == c) outer.0 in
    let same : c ≡ d = sym (eqb-true d c inner.1) in
    let last : 61 ≡ e = sym (eqb-true e 61 outer.1) in
    let base : IsSign (c ∷ c ∷ 61 ∷ []) = is_in_each (λ c. IsSign (c ∷ c ∷ 61 ∷ [])) (codes "/<>") c (refl, (refl, (refl, tt))) inner.0 in
    subst (λ e. IsSign (c ∷ d ∷ e ∷ [])) last (subst (λ d. IsSign (c ∷ d ∷ 61 ∷ [])) same base)

two : (c d : ℕ) → is_sign_of_two c d ≡ true → IsSign (c ∷ d ∷ [])
two c d t =
    elim (or_cases ((is_in (codes "=!<>+-*%&|^") c && (d == 61)) || (is_in (codes "/*<>") c && (d == c))) ((c == 45) && (d == 62)) t) as (λ _. IsSign (c ∷ d ∷ [])) [
      | inl s ↦ elim (or_cases (is_in (codes "=!<>+-*%&|^") c && (d == 61)) (is_in (codes "/*<>") c && (d == c)) s) as (λ _. IsSign (c ∷ d ∷ [])) [
        | inl u ↦ let both = and_parts (is_in (codes "=!<>+-*%&|^") c) (d == 61) u in
            subst (λ d. IsSign (c ∷ d ∷ [])) (sym (eqb-true d 61 both.1))
            (is_in_each (λ c. IsSign (c ∷ 61 ∷ [])) (codes "=!<>+-*%&|^") c (refl, (refl, (refl, (refl, (refl, (refl, (refl, (refl, (refl, (refl, (refl, tt))))))))))) both.0)
        | inr u ↦ let both = and_parts (is_in (codes "/*<>") c) (d == c) u in
            subst (λ d. IsSign (c ∷ d ∷ [])) (sym (eqb-true d c both.1))
            (is_in_each (λ c. IsSign (c ∷ c ∷ [])) (codes "/*<>") c (refl, (refl, (refl, (refl, tt)))) both.0)
      ]
      | inr s ↦ let both = and_parts (c == 45) (d == 62) s in
          subst (λ d. IsSign (c ∷ d ∷ [])) (sym (eqb-true d 62 both.1)) (subst (λ c. IsSign (c ∷ 62 ∷ [])) (sym (eqb-true c 45 both.0)) refl)
    ]

one : (c : ℕ) → is_sign_of_one c ≡ true → IsSign (c ∷ [])
one c t =
    is_in_each (λ c. IsSign (c ∷ [])) (codes ",:.=<>+-*/%&|^~") c
    (refl, (refl, (refl, (refl, (refl, (refl, (refl, (refl, (refl, (refl, (refl, (refl, (refl, (refl, (refl, tt))))))))))))))) t

abbrev SignAt : List ℕ → ℕ → Type 0
SignAt cs n = nat_lt 0 n ≡ true → IsSign (take n cs)

-- a sign of three characters, and so of three that are there
three_at : (cs : List ℕ) → is_sign_of_three (slice_index cs 0) (slice_index cs 1) (slice_index cs 2) ≡ true → IsSign (take 3 cs)
three_at [] t = cc
three_at (c ∷ []) t = absurd (no_three c 0 t)
  where
    no_three : (c e : ℕ) → is_sign_of_three c 0 0 ≡ true → ⊥
    no_three c e t = let p = (and_parts (is_in (codes "/<>") c && (0 == c)) (0 == 61) t).1 in let q : false ≡ true = p in cc
three_at (c ∷ d ∷ []) t = absurd (no_end c d t)
  where
    no_end : (c d : ℕ) → is_sign_of_three c d 0 ≡ true → ⊥
    no_end c d t = let p = (and_parts (is_in (codes "/<>") c && (d == c)) (0 == 61) t).1 in let q : false ≡ true = p in cc
three_at (c ∷ d ∷ e ∷ cs) t = three c d e t

two_at : (cs : List ℕ) → is_sign_of_two (slice_index cs 0) (slice_index cs 1) ≡ true → IsSign (take 2 cs)
two_at [] t = let q : false ≡ true = t in cc
two_at (c ∷ []) t = absurd (no_second c t)
  where
    no_second : (c : ℕ) → is_sign_of_two c 0 ≡ true → ⊥
    no_second c t = let s : IsSign (c ∷ 0 ∷ []) = two c 0 t in
        elim (or_cases ((is_in (codes "=!<>+-*%&|^") c && (0 == 61)) || (is_in (codes "/*<>") c && (0 == c))) ((c == 45) && (0 == 62)) t) as (λ _. ⊥) [
          | inl s ↦ elim (or_cases (is_in (codes "=!<>+-*%&|^") c && (0 == 61)) (is_in (codes "/*<>") c && (0 == c)) s) as (λ _. ⊥) [
            | inl u ↦ let q : false ≡ true = (and_parts (is_in (codes "=!<>+-*%&|^") c) (0 == 61) u).1 in cc
            | inr u ↦ let both = and_parts (is_in (codes "/*<>") c) (0 == c) u in
                let z : 0 ≡ c = eqb-true 0 c both.1 in
                let q : false ≡ true = subst (λ c. is_in (codes "/*<>") c ≡ true) (sym z) both.0 in cc
          ]
          | inr s ↦ let q : false ≡ true = (and_parts (c == 45) (0 == 62) s).1 in cc
        ]
two_at (c ∷ d ∷ cs) t = two c d t

one_at : (cs : List ℕ) → is_sign_of_one (slice_index cs 0) ≡ true → IsSign (take 1 cs)
one_at [] t = let q : false ≡ true = t in cc
one_at (c ∷ cs) t = one c t

pub sign_sound : (cs : List ℕ) → SignAt cs (sign_width (slice_index cs 0) (slice_index cs 1) (slice_index cs 2))
unfolding sign_width
sign_sound cs =
    let c = slice_index cs 0 in let d = slice_index cs 1 in let e = slice_index cs 2 in
    cond_both (is_sign_of_three c d e) 3 (cond (is_sign_of_two c d) 2 (cond (is_sign_of_one c) 1 0)) (SignAt cs) (λ t _. three_at cs t)
    (λ _. cond_both (is_sign_of_two c d) 2 (cond (is_sign_of_one c) 1 0) (SignAt cs) (λ t _. two_at cs t)
    (λ _. cond_both (is_sign_of_one c) 1 0 (SignAt cs) (λ t _. one_at cs t) (λ _ z. cc)))
