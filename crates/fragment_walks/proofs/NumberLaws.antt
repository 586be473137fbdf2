-- Numbers below a bound are marks: what is done to the numbers is done to the marks.
use Rattle.std.proofs.Common.{◌≡◌, ℕ, zero, suc, ◌+◌, ◌<◌, ◌≤◌, ◌==◌, nat_lt, Bool, true, false, ◌||◌, cond, List, [], ◌∷◌, ◌++◌, length, take, Option, Some, None, slice_get, slice_set, replicate, refl, sym, ap, ◌∙◌, subst, arith}
use Rattle.std.specs.List.{AllByRecursion, list_any}
use Rattle.std.proofs.lemmas.Bool.{false≢true, eqb-true, eq-eqb}
use Rattle.std.proofs.lemmas.Bool.Decides.{nat_tests}
use Rattle.std.proofs.lemmas.List.{get_or-set_other, get_or-set_same, length-set}
use Rattle.design_ir.specs.Circuits.{is_among}
use Rattle.fragment_walks.specs.Marks.{is_marked, marked, comes_out}
use Rattle.fragment_walks.specs.Numbers.{lowered, is_below, bounded, first_at, lesser}
use Rattle.fragment_walks.proofs.Lists.{take-push, or_false, length_map}
use Rattle.fragment_walks.proofs.Outs.{spread_no, spread_yes}

-- ---- lists of numbers

pub length_lowered : (ks : List ℕ) (n : ℕ) (firsts : List (Option ℕ)) → length (lowered ks n firsts) ≡ length firsts
length_lowered [] n firsts = refl
length_lowered (k ∷ ks) n firsts =
    let one = lesser (first_at firsts k) (Some n) in
    length_lowered ks n (slice_set firsts k one) ∙ length-set firsts k one

lowered-append : (xs ys : List ℕ) (n : ℕ) (firsts : List (Option ℕ)) → lowered (xs ++ ys) n firsts ≡ lowered ys n (lowered xs n firsts)
lowered-append [] ys n firsts = refl
lowered-append (x ∷ xs) ys n firsts = lowered-append xs ys n (slice_set firsts x (lesser (first_at firsts x) (Some n)))

-- one more of some items
pub lowered_turn : {X : Type 0} (f : List X → List ℕ) (n : ℕ) (items : List X) (i : ℕ) (x : X) (more : List ℕ) (old cur new : List (Option ℕ)) → slice_get items i ≡ Some x → f (take i items ++ x ∷ []) ≡ f (take i items) ++ more → cur ≡ lowered (f (take i items)) n old → new ≡ lowered more n cur
    → new ≡ lowered (f (take (i + 1) items)) n old
lowered_turn f n items i x more old cur new at push h k =
    k ∙ ap (lowered more n) h ∙ sym (lowered-append (f (take i items)) more n old) ∙ ap (λ ks. lowered ks n old) (sym (ap f (take-push items i x at) ∙ push))

-- ---- below a bound

pub bounded_at : (i : ℕ) (firsts : List (Option ℕ)) (k : ℕ) → is_marked (bounded i firsts) k ≡ is_below i (first_at firsts k)
bounded_at i [] k = refl
bounded_at i (x ∷ xs) zero = refl
bounded_at i (x ∷ xs) (suc k) = bounded_at i xs k

pub bounded_none : (i n : ℕ) → bounded i (replicate n None) ≡ replicate n false
bounded_none i zero = refl
bounded_none i (suc n) = ap (λ bs. false ∷ bs) (bounded_none i n)

bounded_set : (i : ℕ) (firsts : List (Option ℕ)) (k : ℕ) (o : Option ℕ) → bounded i (slice_set firsts k o) ≡ slice_set (bounded i firsts) k (is_below i o)
bounded_set i [] k o = refl
bounded_set i (x ∷ xs) zero o = refl
bounded_set i (x ∷ xs) (suc k) o = ap (λ bs. is_below i x ∷ bs) (bounded_set i xs k o)

same_set : (i : ℕ) (firsts : List (Option ℕ)) (k : ℕ) (b : Bool) → b ≡ is_below i (first_at firsts k) → slice_set (bounded i firsts) k b ≡ bounded i firsts
same_set i [] k b e = refl
same_set i (x ∷ xs) zero b e = ap (λ c. c ∷ bounded i xs) e
same_set i (x ∷ xs) (suc k) b e = ap (λ bs. is_below i x ∷ bs) (same_set i xs k b e)

pub below_lesser : (i : ℕ) (a b : Option ℕ) → is_below i (lesser a b) ≡ (is_below i a || is_below i b)
below_lesser i None b = refl
below_lesser i (Some m) None = sym (or_false (nat_lt m i))
below_lesser i (Some m) (Some n) = split (nat_lt n m) (nat_lt m i) refl refl
  where
    less : (i m n : ℕ) → nat_lt n m ≡ true → nat_lt m i ≡ true → nat_lt n i ≡ true
    less i m n e f = grind (arith, nat_tests)

    more : (i m n : ℕ) → nat_lt n m ≡ false → nat_lt m i ≡ false → nat_lt n i ≡ false
    more i m n e f = grind (arith, nat_tests)

    split : (c d : Bool) → nat_lt n m ≡ c → nat_lt m i ≡ d → is_below i (cond c (Some n) (Some m)) ≡ (nat_lt m i || nat_lt n i)
    split true true e f = less i m n e f ∙ ap (λ b. b || nat_lt n i) (sym f)
    split true false e f = ap (λ b. b || nat_lt n i) (sym f)
    split false true e f = f ∙ ap (λ b. b || nat_lt n i) (sym f)
    split false false e f = f ∙ sym (more i m n e f) ∙ ap (λ b. b || nat_lt n i) (sym f)

pub or_true : (a : Bool) → (a || true) ≡ true
or_true true = refl
or_true false = refl

-- numbers that are below the same bounds
pub below_same : (a b : Option ℕ) → ((i : ℕ) → is_below i a ≡ is_below i b) → a ≡ b
below_same None None h = refl
below_same (Some m) None h = absurd (false≢true (sym (h (suc m)) ∙ just_below m))
  where
    just_below : (m : ℕ) → nat_lt m (suc m) ≡ true
    just_below m = grind (arith, nat_tests)
below_same None (Some n) h = absurd (false≢true (h (suc n) ∙ just_below n))
  where
    just_below : (m : ℕ) → nat_lt m (suc m) ≡ true
    just_below m = grind (arith, nat_tests)
below_same (Some m) (Some n) h = ap Some (equal m n (h (suc m)) (h (suc n)))
  where
    equal : (m n : ℕ) → nat_lt m (suc m) ≡ nat_lt n (suc m) → nat_lt m (suc n) ≡ nat_lt n (suc n) → m ≡ n
    equal m n a b = grind (arith, nat_tests)

-- a number that is not less changes nothing
pub lesser_again : (o : Option ℕ) (m n : ℕ) → m ≤ n → lesser (lesser o (Some m)) (Some n) ≡ lesser o (Some m)
lesser_again o m n le = below_same (lesser (lesser o (Some m)) (Some n)) (lesser o (Some m)) each
  where
    joined : (a b c : Bool) → (c ≡ true → b ≡ true) → ((a || b) || c) ≡ (a || b)
    joined a b false h = or_false (a || b)
    joined a true true h = or_true (a || true) ∙ sym (or_true a)
    joined a false true h = absurd (false≢true (h refl))

    less : (m n i : ℕ) → m ≤ n → nat_lt n i ≡ true → nat_lt m i ≡ true
    less m n i le e = grind (arith, nat_tests)

    each : (i : ℕ) → is_below i (lesser (lesser o (Some m)) (Some n)) ≡ is_below i (lesser o (Some m))
    each i =
        below_lesser i (lesser o (Some m)) (Some n)
        ∙ ap (λ b. b || nat_lt n i) (below_lesser i o (Some m))
        ∙ joined (is_below i o) (nat_lt m i) (nat_lt n i) (less m n i le)
        ∙ sym (below_lesser i o (Some m))

-- numbers below the bound are marks, and others are none
pub lowered_below : (i n : ℕ) (ks : List ℕ) (firsts : List (Option ℕ)) → nat_lt n i ≡ true → bounded i (lowered ks n firsts) ≡ marked ks (bounded i firsts)
lowered_below i n [] firsts e = refl
lowered_below i n (k ∷ ks) firsts e =
    let o = first_at firsts k in
    lowered_below i n ks (slice_set firsts k (lesser o (Some n))) e
    ∙ ap (marked ks) (bounded_set i firsts k (lesser o (Some n)) ∙ ap (slice_set (bounded i firsts) k) (below_lesser i o (Some n) ∙ ap (λ b. is_below i o || b) e ∙ or_true (is_below i o)))

pub lowered_past : (i n : ℕ) (ks : List ℕ) (firsts : List (Option ℕ)) → nat_lt n i ≡ false → bounded i (lowered ks n firsts) ≡ bounded i firsts
lowered_past i n [] firsts e = refl
lowered_past i n (k ∷ ks) firsts e =
    let o = first_at firsts k in
    lowered_past i n ks (slice_set firsts k (lesser o (Some n))) e
    ∙ bounded_set i firsts k (lesser o (Some n))
    ∙ same_set i firsts k (is_below i (lesser o (Some n))) (below_lesser i o (Some n) ∙ ap (λ b. is_below i o || b) e ∙ or_false (is_below i o))

-- ---- one number of a list

pub first_at_set : (firsts : List (Option ℕ)) (k : ℕ) (o : Option ℕ) (s : ℕ) → k < length firsts → first_at (slice_set firsts k o) s ≡ cond (k == s) o (first_at firsts s)
first_at_set firsts k o s h = split (k == s) refl
  where
    split : (b : Bool) → (k == s) ≡ b → first_at (slice_set firsts k o) s ≡ cond b o (first_at firsts s)
    split true e = ap (first_at (slice_set firsts k o)) (sym (eqb-true k s e)) ∙ get_or-set_same firsts k o None h
    split false e = get_or-set_other firsts k s o None (λ same. false≢true (sym e ∙ eq-eqb k s (sym same)))

pub lowered_at : (ks : List ℕ) (n : ℕ) (firsts : List (Option ℕ)) (s : ℕ) → AllByRecursion (λ k. k < length firsts) ks → first_at (lowered ks n firsts) s ≡ cond (is_among ks s) (lesser (first_at firsts s) (Some n)) (first_at firsts s)
lowered_at [] n firsts s h = refl
lowered_at (k ∷ ks) n firsts s h =
    lowered_at ks n next s (subst (λ m. AllByRecursion (λ j. j < m) ks) (sym (length-set firsts k (lesser (first_at firsts k) (Some n)))) h.1)
    ∙ ap (λ o. cond (is_among ks s) (lesser o (Some n)) o) here
    ∙ split (k == s) (is_among ks s)
  where
    next : List (Option ℕ)
    next = slice_set firsts k (lesser (first_at firsts k) (Some n))

    at_same : (b : Bool) → (k == s) ≡ b → cond b (lesser (first_at firsts k) (Some n)) (first_at firsts s) ≡ cond b (lesser (first_at firsts s) (Some n)) (first_at firsts s)
    at_same true e = ap (λ j. lesser (first_at firsts j) (Some n)) (eqb-true k s e)
    at_same false e = refl

    here : first_at next s ≡ cond (k == s) (lesser (first_at firsts s) (Some n)) (first_at firsts s)
    here = first_at_set firsts k (lesser (first_at firsts k) (Some n)) s h.0 ∙ at_same (k == s) refl

    split : (b c : Bool) → cond c (lesser (cond b (lesser (first_at firsts s) (Some n)) (first_at firsts s)) (Some n)) (cond b (lesser (first_at firsts s) (Some n)) (first_at firsts s)) ≡ cond (b || c) (lesser (first_at firsts s) (Some n)) (first_at firsts s)
    split true true = lesser_again (first_at firsts s) n n (omega arith)
    split true false = refl
    split false true = refl
    split false false = refl

-- ---- numbers that are handed down

module _ (leads : ℕ → List ℕ) (i k s : ℕ) (targets signals : List (Option ℕ)) where
  pub down_no : first_at targets k ≡ None → comes_out leads (bounded i targets) (bounded i signals) k s ≡ comes_out leads (bounded i targets) (bounded i signals) (k + 1) s
  down_no e = spread_no leads (bounded i targets) (bounded i signals) k s (bounded_at i targets k ∙ ap (is_below i) e)

  pub down_yes : (n : ℕ) (parts own : List ℕ) → first_at targets k ≡ Some n → k < length targets → AllByRecursion (λ j. j < k) parts → AllByRecursion (λ j. j < length signals) own
      → is_among (leads k) s ≡ (is_among own s || list_any (λ j. is_among (leads j) s) parts) → comes_out leads (bounded i (lowered parts n targets)) (bounded i (lowered own n signals)) k s ≡ comes_out leads (bounded i targets) (bounded i signals) (k + 1) s
  down_yes n parts own e there low inside whole = split (nat_lt n i) refl
    where
      here : is_marked (bounded i targets) k ≡ nat_lt n i
      here = bounded_at i targets k ∙ ap (is_below i) e

      split : (b : Bool) → nat_lt n i ≡ b → comes_out leads (bounded i (lowered parts n targets)) (bounded i (lowered own n signals)) k s ≡ comes_out leads (bounded i targets) (bounded i signals) (k + 1) s
      split true f =
          ap (λ ms. comes_out leads ms (bounded i (lowered own n signals)) k s) (lowered_below i n parts targets f)
          ∙ ap (λ os. comes_out leads (marked parts (bounded i targets)) os k s) (lowered_below i n own signals f)
          ∙ spread_yes leads (bounded i targets) (bounded i signals) k s parts own (here ∙ f) (omega (arith, there, length_map (is_below i) targets)) low
          (subst (λ m. AllByRecursion (λ j. j < m) own) (sym (length_map (is_below i) signals)) inside) whole
      split false f =
          ap (λ ms. comes_out leads ms (bounded i (lowered own n signals)) k s) (lowered_past i n parts targets f)
          ∙ ap (λ os. comes_out leads (bounded i targets) os k s) (lowered_past i n own signals f)
          ∙ spread_no leads (bounded i targets) (bounded i signals) k s (here ∙ f)
