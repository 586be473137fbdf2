-- What is marked after more was.
use Rattle.std.proofs.Common.{◌≡◌, ◌≢◌, ℕ, zero, suc, ◌+◌, ◌<◌, ◌==◌, Bool, true, false, ◌&&◌, ◌||◌, List, [], ◌∷◌, ◌++◌, length, take, Some, slice_get, slice_set, replicate, refl, sym, ap, ◌∙◌, subst, arith}
use Rattle.std.specs.List.{AllByRecursion, list_any}
use Rattle.std.proofs.lemmas.Bool.{false≢true, eqb-true, eq-eqb}
use Rattle.std.proofs.lemmas.List.{length-set, get_or-set_same, get_or-set_other}
use Rattle.design_ir.specs.declared.ids.ExprId.{ExprId}
use Rattle.design_ir.specs.Circuits.{is_among}
use Rattle.fragment_walks.specs.Marks.{is_marked, marked, numbers, any_below}
use Rattle.fragment_walks.proofs.Lists.{take-push, map-push, or_false, or_assoc}

pub length_marked : (ns : List ℕ) (marks : List Bool) → length (marked ns marks) ≡ length marks
length_marked [] marks = refl
length_marked (n ∷ ns) marks = length_marked ns (slice_set marks n true) ∙ length-set marks n true

pub marked-append : (xs ys : List ℕ) (marks : List Bool) → marked (xs ++ ys) marks ≡ marked ys (marked xs marks)
marked-append [] ys marks = refl
marked-append (x ∷ xs) ys marks = marked-append xs ys (slice_set marks x true)

pub numbers_turn : (items : List ExprId) (i : ℕ) (x : ExprId) (old cur new : List Bool) → slice_get items i ≡ Some x → cur ≡ marked (numbers (take i items)) old → new ≡ marked (x.0 ∷ []) cur → new ≡ marked (numbers (take (i + 1) items)) old
numbers_turn items i x old cur new at h k =
    k ∙ ap (marked (x.0 ∷ [])) h ∙ sym (marked-append (numbers (take i items)) (x.0 ∷ []) old)
    ∙ ap (λ ns. marked ns old) (sym (map-push (λ (e : ExprId). e.0) (take i items) x) ∙ ap numbers (sym (take-push items i x at)))

or_true : (a : Bool) → true ≡ (a || true)
or_true true = refl
or_true false = refl

pub marked_set : (marks : List Bool) (n t : ℕ) → n < length marks → is_marked (slice_set marks n true) t ≡ (is_marked marks t || (n == t))
marked_set marks n t h = split (n == t) refl
  where
    split : (b : Bool) → (n == t) ≡ b → is_marked (slice_set marks n true) t ≡ (is_marked marks t || (n == t))
    split true e = ap (is_marked (slice_set marks n true)) (sym (eqb-true n t e)) ∙ get_or-set_same marks n true false h ∙ or_true (is_marked marks t) ∙ ap (λ b. is_marked marks t || b) (sym e)
    split false e = get_or-set_other marks n t true false (λ same. false≢true (sym e ∙ eq-eqb n t (sym same))) ∙ sym (or_false (is_marked marks t)) ∙ ap (λ b. is_marked marks t || b) (sym e)

pub marked_at : (ns : List ℕ) (marks : List Bool) (t : ℕ) → AllByRecursion (λ n. n < length marks) ns → is_marked (marked ns marks) t ≡ (is_marked marks t || is_among ns t)
marked_at [] marks t h = sym (or_false (is_marked marks t))
marked_at (n ∷ ns) marks t h =
    marked_at ns (slice_set marks n true) t (subst (λ k. AllByRecursion (λ n. n < k) ns) (sym (length-set marks n true)) h.1)
    ∙ ap (λ b. b || is_among ns t) (marked_set marks n t h.0)
    ∙ or_assoc (is_marked marks t) (n == t) (is_among ns t)

pub fresh_marks : (k n : ℕ) → is_marked (replicate k false) n ≡ false
fresh_marks zero n = refl
fresh_marks (suc k) zero = refl
fresh_marks (suc k) (suc n) = fresh_marks k n

-- ---- marked numbers below a bound that pass

and_or : (a b c : Bool) → ((a || b) && c) ≡ ((a && c) || (b && c))
and_or true b true = refl
and_or true b false = let e : (b && false) ≡ false = and_false b in sym e
  where
    and_false : (b : Bool) → (b && false) ≡ false
    and_false true = refl
    and_false false = refl
and_or false b c = refl

or_swap : (a b c : Bool) → (a || (b || c)) ≡ (b || (a || c))
or_swap true true c = refl
or_swap true false c = refl
or_swap false b c = refl

-- a number j below the bound is marked too
one_more : (q : ℕ → Bool) (marks : List Bool) (j k : ℕ) → j < length marks → any_below (λ i. is_marked (slice_set marks j true) i && q i) k ≡ (any_below (λ i. (j == i) && q i) k || any_below (λ i. is_marked marks i && q i) k)
one_more q marks j zero h = refl
one_more q marks j (suc k) h =
    let m = ap (λ b. b && q k) (marked_set marks j k h) ∙ and_or (is_marked marks k) (j == k) (q k) in
    let rest = one_more q marks j k h in
    joined (is_marked marks k && q k) ((j == k) && q k) _ _ _ _ m rest
  where
    joined : (a b c d x y : Bool) → x ≡ (a || b) → y ≡ (c || d) → (x || y) ≡ ((b || c) || (a || d))
    joined a b c d x y e f = ap (λ z. z || y) e ∙ ap (λ z. (a || b) || z) f ∙ bools a b c d
      where
        bools : (a b c d : Bool) → ((a || b) || (c || d)) ≡ ((b || c) || (a || d))
        bools true true c d = refl
        bools true false true d = refl
        bools true false false d = refl
        bools false true c d = refl
        bools false false c d = refl

just_none : (q : ℕ → Bool) (j k : ℕ) → k < j + 1 → any_below (λ i. (j == i) && q i) k ≡ false
just_none q j zero h = refl
just_none q j (suc k) h = ap (λ b. (b && q k) || any_below (λ i. (j == i) && q i) k) (differ j k (omega (arith, h))) ∙ just_none q j k (omega (arith, h))
  where
    differ : (j k : ℕ) → k < j → (j == k) ≡ false
    differ j k h = split (j == k) refl
      where
        split : (b : Bool) → (j == k) ≡ b → b ≡ false
        split false e = refl
        split true e = absurd (omega (arith, eqb-true j k e, h))

just_one : (q : ℕ → Bool) (j k : ℕ) → j < k → any_below (λ i. (j == i) && q i) k ≡ q j
just_one q j zero h = absurd (omega (arith, h))
just_one q j (suc k) h = split (j == k) refl (just_one q j k)
  where
    split : (b : Bool) → (j == k) ≡ b → (j < k → any_below (λ i. (j == i) && q i) k ≡ q j) → (((j == k) && q k) || any_below (λ i. (j == i) && q i) k) ≡ q j
    split true e rest =
        let same = eqb-true j k e in
        ap (λ b. (b && q k) || any_below (λ i. (j == i) && q i) k) e ∙ ap (λ b. q k || b) (just_none q j k (omega (arith, same))) ∙ or_false (q k) ∙ ap q (sym same)
    split false e rest = ap (λ b. (b && q k) || any_below (λ i. (j == i) && q i) k) e ∙ rest (below j k h e)
      where
        below : (j k : ℕ) → j < suc k → (j == k) ≡ false → j < k
        below j k h e = let other : j ≢ k = λ same. false≢true (sym e ∙ eq-eqb j k same) in omega (arith, h, other)

-- numbers below the bound are marked too
pub more_below : (q : ℕ → Bool) (ns : List ℕ) (marks : List Bool) (k : ℕ) → AllByRecursion (λ n. n < k) ns → k < length marks + 1 → any_below (λ i. is_marked (marked ns marks) i && q i) k ≡ (list_any q ns || any_below (λ i. is_marked marks i && q i) k)
more_below q [] marks k h len = refl
more_below q (n ∷ ns) marks k h len =
    more_below q ns (slice_set marks n true) k h.1 (omega (arith, len, length-set marks n true))
    ∙ ap (λ b. list_any q ns || b) (one_more q marks n k (omega (arith, h.0, len)) ∙ ap (λ b. b || any_below (λ i. is_marked marks i && q i) k) (just_one q n k h.0))
    ∙ or_swap (list_any q ns) (q n) (any_below (λ i. is_marked marks i && q i) k)
    ∙ sym (or_assoc (q n) (list_any q ns) (any_below (λ i. is_marked marks i && q i) k))

pub none_below : (q : ℕ → Bool) (n k : ℕ) → any_below (λ i. is_marked (replicate n false) i && q i) k ≡ false
none_below q n zero = refl
none_below q n (suc k) = ap (λ b. (b && q k) || any_below (λ i. is_marked (replicate n false) i && q i) k) (fresh_marks n k) ∙ none_below q n k
