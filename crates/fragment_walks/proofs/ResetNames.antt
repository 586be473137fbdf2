-- The names of resets, one expression after another.
use Rattle.std.proofs.Common.{◌≡◌, ℕ, zero, suc, ◌+◌, ◌<◌, ◌≤◌, ◌==◌, Bool, true, false, cond, List, [], ◌∷◌, ◌++◌, map, length, Option, Some, None, slice_get, refl, sym, ap, ◌∙◌, arith, append-nil, append_assoc}
use Rattle.std.specs.Prelude.{option_and_then}
use Rattle.std.specs.List.{filter, filter_map, range_with_len}
use Rattle.std.proofs.lemmas.Bool.Decides.{nat_tests}
use Rattle.std.proofs.lemmas.List.Elements.{filter-append, filter_map-append}
use Rattle.design_ir.specs.declared.expr.Expr.{Expr}
use Rattle.design_ir.specs.Pools.{Pooled}
use Rattle.fragment_walks.specs.Numbers.{first_at}
use Rattle.fragment_walks.specs.Held.{ResetCall, reset_call}
use Rattle.fragment_walks.specs.Names.{is_number, new_resets, with_name, with_resets}
use Rattle.fragment_walks.proofs.Lists.{map-append}

pub numbers-push : (a n : ℕ) → range_with_len a (n + 1) ≡ range_with_len a n ++ (a + n) ∷ []
numbers-push a n = ap (range_with_len a) (let e : n + 1 ≡ suc n = omega arith in e) ∙ push a n
  where
    push : (a n : ℕ) → range_with_len a (suc n) ≡ range_with_len a n ++ (a + n) ∷ []
    push a zero = ap (λ m. m ∷ []) (let e : a ≡ a + 0 = omega arith in e)
    push a (suc n) = ap (λ xs. a ∷ xs) (push (a + 1) n ∙ ap (λ m. range_with_len (a + 1) n ++ m ∷ []) (let e : a + 1 + n ≡ a + suc n = omega arith in e))

pub range_parted : (a n m : ℕ) → range_with_len a (n + m) ≡ range_with_len a n ++ range_with_len (a + n) m
range_parted a zero m = ap (range_with_len a) (let e : 0 + m ≡ m = omega arith in e) ∙ ap (λ k. range_with_len k m) (let e : a ≡ a + 0 = omega arith in e)
range_parted a (suc n) m =
    ap (range_with_len a) (let e : suc n + m ≡ suc (n + m) = omega arith in e)
    ∙ ap (λ xs. a ∷ xs) (range_parted (a + 1) n m ∙ ap (λ k. range_with_len (a + 1) n ++ range_with_len k m) (let e : a + 1 + n ≡ a + suc n = omega arith in e))

-- a number and no other
same_number : (n : ℕ) → (n == n) ≡ true
same_number n = grind (arith, nat_tests)

other_number : (m n : ℕ) → m < n → (m == n) ≡ false
other_number m n h = grind (arith, nat_tests)

greater_number : (m n : ℕ) → n < m → (m == n) ≡ false
greater_number m n h = grind (arith, nat_tests)

-- ---- one expression more

abbrev domains_of : List ResetCall → List (List ℕ)
domains_of calls = map (λ (r : ResetCall). r.domain) calls

module _ (q : Pooled) (firsts : List (Option ℕ)) where
  abbrev call_at : ℕ → Option ResetCall
  call_at k = option_and_then reset_call (slice_get q.exprs k)

  abbrev has_number : ℕ → ℕ → Bool
  has_number n j = is_number n (first_at firsts j)

  -- those of one expression
  abbrev own_resets : ℕ → ℕ → List (List ℕ)
  own_resets k n = domains_of (filter_map call_at (cond (has_number n k) (k ∷ []) []))

  resets-push : (k n : ℕ) → new_resets q firsts (k + 1) n ≡ new_resets q firsts k n ++ own_resets k n
  resets-push k n =
      ap (λ ks. domains_of (filter_map call_at (filter (has_number n) ks))) (numbers-push 0 k ∙ ap (λ m. range_with_len 0 k ++ m ∷ []) (let e : 0 + k ≡ k = omega arith in e))
      ∙ ap (λ ks. domains_of (filter_map call_at ks)) (filter-append (has_number n) (range_with_len 0 k) (k ∷ []))
      ∙ ap domains_of (filter_map-append call_at (filter (has_number n) (range_with_len 0 k)) (filter (has_number n) (k ∷ [])))
      ∙ map-append (λ (r : ResetCall). r.domain) (filter_map call_at (filter (has_number n) (range_with_len 0 k))) (filter_map call_at (filter (has_number n) (k ∷ [])))

  resets_other : (k n : ℕ) → is_number n (first_at firsts k) ≡ false → new_resets q firsts (k + 1) n ≡ new_resets q firsts k n
  resets_other k n h =
      resets-push k n
      ∙ ap (λ b. new_resets q firsts k n ++ domains_of (filter_map call_at (cond b (k ∷ []) []))) h
      ∙ append-nil (new_resets q firsts k n)

  resets_own : (k n : ℕ) (e : Expr) → slice_get q.exprs k ≡ Some e → is_number n (first_at firsts k) ≡ true → new_resets q firsts (k + 1) n ≡ new_resets q firsts k n ++ domains_of (filter_map reset_call (e ∷ []))
  resets_own k n e at h =
      resets-push k n
      ∙ ap (λ b. new_resets q firsts k n ++ domains_of (filter_map call_at (cond b (k ∷ []) []))) h
      ∙ ap (λ ys. new_resets q firsts k n ++ domains_of ys) (one (option_and_then reset_call (slice_get q.exprs k)) (ap (option_and_then reset_call) at))
    where
      one : (o : Option ResetCall) → o ≡ reset_call e → filter_map (λ (j : ℕ). o) (k ∷ []) ≡ filter_map reset_call (e ∷ [])
      one o h = ap (λ (x : Option ResetCall). filter_map (λ (j : ℕ). x) (k ∷ [])) h

  -- none of these fragments holds it first
  pub with_other : (k n : ℕ) (names : List (List (List ℕ))) → ((i : ℕ) → n ≤ i → is_number i (first_at firsts k) ≡ false) → with_resets q firsts (k + 1) n names ≡ with_resets q firsts k n names
  with_other k n [] h = refl
  with_other k n (own ∷ more) h =
      let a = resets_other k n (h n (omega arith)) in
      let b = with_other k (suc n) more (λ i le. h i (omega (arith, le))) in cc

  pub with_none : (k n : ℕ) (names : List (List (List ℕ))) → first_at firsts k ≡ None → with_resets q firsts (k + 1) n names ≡ with_resets q firsts k n names
  with_none k n names h = with_other k n names (λ i le. ap (is_number i) h)

  -- the one that does
  with_one : (k n j m : ℕ) (e : Expr) (names : List (List (List ℕ))) → slice_get q.exprs k ≡ Some e → first_at firsts k ≡ Some m → m ≡ n + j → j < length names → with_resets q firsts (k + 1) n names ≡ with_name j e (with_resets q firsts k n names)
  with_one k n j m e [] at h is low = absurd (omega (arith, low))
  with_one k n zero m e (own ∷ more) at h is low =
      let here : is_number n (first_at firsts k) ≡ true = ap (is_number n) h ∙ ap (λ (x : ℕ). x == n) (let e : m ≡ n = omega (arith, is) in e) ∙ same_number n in
      let a : own ++ new_resets q firsts (k + 1) n ≡ (own ++ new_resets q firsts k n) ++ domains_of (filter_map reset_call (e ∷ [])) =
      ap (λ ys. own ++ ys) (resets_own k n e at here) ∙ sym (append_assoc own (new_resets q firsts k n) (domains_of (filter_map reset_call (e ∷ [])))) in
      let b = with_other k (suc n) more (λ i le. ap (is_number i) h ∙ other_number m i (omega (arith, le, is))) in cc
  with_one k n (suc j) m e (own ∷ more) at h is low =
      let a : own ++ new_resets q firsts (k + 1) n ≡ own ++ new_resets q firsts k n = ap (λ ys. own ++ ys) (resets_other k n (ap (is_number n) h ∙ greater_number m n (omega (arith, is)))) in
      let b = with_one k (suc n) j m e more at h (omega (arith, is)) (omega (arith, low)) in cc

  pub with_some : (k m : ℕ) (e : Expr) (names : List (List (List ℕ))) → slice_get q.exprs k ≡ Some e → first_at firsts k ≡ Some m → m < length names → with_resets q firsts (k + 1) 0 names ≡ with_name m e (with_resets q firsts k 0 names)
  with_some k m e names at h low = with_one k 0 m m e names at h (omega arith) low

  pub with-length : (k n : ℕ) (names : List (List (List ℕ))) → length (with_resets q firsts k n names) ≡ length names
  with-length k n [] = refl
  with-length k n (own ∷ more) = ap suc (with-length k (suc n) more)

  pub with_zero : (n : ℕ) (names : List (List (List ℕ))) → with_resets q firsts 0 n names ≡ names
  with_zero n [] = refl
  with_zero n (own ∷ more) = let a = append-nil own in let b = with_zero (suc n) more in cc
