-- Numbers of the fragments that hold expressions, and what they come to.
use Rattle.std.proofs.Common.{◌≡◌, ℕ, zero, suc, ◌+◌, ◌<◌, ◌≤◌, ◌==◌, ◌&&◌, ◌||◌, nat_lt, Bool, true, false, List, [], ◌∷◌, ◌++◌, length, take, replicate, Option, Some, slice_get, refl, sym, ap, ◌∙◌, subst, arith, append-nil}
use Rattle.std.specs.List.{AllByRecursion, flat_map, list_any}
use Rattle.std.proofs.lemmas.Bool.Decides.{nat_tests}
use Rattle.std.proofs.lemmas.List.{length-replicate}
use Rattle.std.proofs.lemmas.List.Concat.{flat_map-append}
use Rattle.design_ir.specs.declared.ids.ExprId.{ExprId}
use Rattle.design_ir.specs.declared.expr.Expr.{Expr}
use Rattle.design_ir.specs.Named.{named, AllBelow}
use Rattle.design_ir.specs.Pools.{Pooled}
use Rattle.design_ir.specs.PoolRules.{IsPool}
use Rattle.design_ir.specs.Circuits.{is_among}
use Rattle.design_ir.proofs.Congruence.{AreSame, same_below}
use Rattle.design_ir.proofs.Equations.{standing, answer_at}
use Rattle.fragment_walks.specs.Held.{inside, inside_step, is_within}
use Rattle.fragment_walks.specs.Holders.{first_roots}
use Rattle.fragment_walks.specs.Marks.{any_below, comes_out, is_marked, marked, numbers}
use Rattle.fragment_walks.specs.Numbers.{bounded, lowered}
use Rattle.fragment_walks.proofs.Lists.{any-append, below_all, map-append, or_false, take-push, take_end, take_length}
use Rattle.fragment_walks.proofs.Markings.{fresh_marks, marked-append, marked_at, more_below, none_below}
use Rattle.fragment_walks.proofs.NumberLaws.{lowered_below, lowered_past}
use Rattle.fragment_walks.proofs.Outs.{among_flat}

-- ---- one fragment more

roots-push : (xs : List (List ExprId)) (x : List ExprId) → flat_map (λ (es : List ExprId). es) (xs ++ x ∷ []) ≡ flat_map (λ (es : List ExprId). es) xs ++ x
roots-push xs x = flat_map-append (λ (es : List ExprId). es) xs (x ∷ []) ∙ ap (λ ys. flat_map (λ (es : List ExprId). es) xs ++ ys) (append-nil x)

pub roots_turn : (xs : List (List ExprId)) (j : ℕ) (x : List ExprId) (old cur new : List (Option ℕ)) → slice_get xs j ≡ Some x → ((i : ℕ) → bounded i cur ≡ marked (numbers (first_roots i (take j xs))) (bounded i old)) → new ≡ lowered (numbers x) j cur
    → (i : ℕ) → bounded i new ≡ marked (numbers (first_roots i (take (j + 1) xs))) (bounded i old)
roots_turn xs j x old cur new at h k i = ap (bounded i) k ∙ split (nat_lt j i) refl
  where
    size : length (take j xs) ≡ j
    size = take_length xs j x at

    next : take (j + 1) xs ≡ take j xs ++ x ∷ []
    next = take-push xs j x at

    grown : (ys : List (List ExprId)) → length (ys ++ x ∷ []) ≡ suc (length ys)
    grown [] = refl
    grown (y ∷ ys) = ap suc (grown ys)

    size' : length (take (j + 1) xs) ≡ j + 1
    size' = omega (arith, ap length next, grown (take j xs), size)

    below : nat_lt j i ≡ true → j < i
    below e = grind (arith, nat_tests)

    past : nat_lt j i ≡ false → i ≤ j
    past e = grind (arith, nat_tests)

    shorter : (ys : List (List ExprId)) (m : ℕ) → m ≤ length ys → take m (ys ++ x ∷ []) ≡ take m ys
    shorter [] zero le = refl
    shorter [] (suc m) le = absurd (omega (arith, le))
    shorter (y ∷ ys) zero le = refl
    shorter (y ∷ ys) (suc m) le = ap (λ zs. y ∷ zs) (shorter ys m (omega (arith, le)))

    split : (b : Bool) → nat_lt j i ≡ b → bounded i (lowered (numbers x) j cur) ≡ marked (numbers (first_roots i (take (j + 1) xs))) (bounded i old)
    split true e =
        let low = below e in
        let all : take i (take j xs) ≡ take j xs = take_end (take j xs) i (omega (arith, low, size)) in
        let all' : take i (take (j + 1) xs) ≡ take j xs ++ x ∷ [] = take_end (take (j + 1) xs) i (omega (arith, low, size')) ∙ next in
        lowered_below i j (numbers x) cur e
        ∙ ap (marked (numbers x)) (h i ∙ ap (λ ys. marked (numbers (flat_map (λ (es : List ExprId). es) ys)) (bounded i old)) all)
        ∙ sym (marked-append (numbers (flat_map (λ (es : List ExprId). es) (take j xs))) (numbers x) (bounded i old))
        ∙ ap (λ ns. marked ns (bounded i old))
        (sym (map-append (λ (e : ExprId). e.0) (flat_map (λ (es : List ExprId). es) (take j xs)) x) ∙ ap numbers (sym (roots-push (take j xs) x)) ∙ ap (λ ys. numbers (flat_map (λ (es : List ExprId). es) ys)) (sym all'))
    split false e =
        let low = past e in
        lowered_past i j (numbers x) cur e ∙ h i
        ∙ ap (λ ys. marked (numbers (flat_map (λ (es : List ExprId). es) ys)) (bounded i old)) (sym (ap (take i) next ∙ shorter (take j xs) i (omega (arith, low, size))))

-- ---- what stands in an expression

flat_same : (f g : ℕ → List ℕ) (es : List ExprId) → AreSame f g es → flat_map (λ (e : ExprId). f e.0) es ≡ flat_map (λ (e : ExprId). g e.0) es
flat_same f g [] h = refl
flat_same f g (e ∷ es) h = let a = h.0 in let b = flat_same f g es h.1 in cc

pub inside_is : (q : Pooled) (k : ℕ) (e : Expr) → IsPool q → slice_get q.exprs k ≡ Some e → inside q k ≡ inside_step (inside q) e
unfolding inside
inside_is q k e rules at = answer_at [] inside_step q.exprs k e at (λ f g same. ap (λ ss. numbers (named e) ++ ss) (flat_same f g (named e) (same_below f g k (named e) same (standing q k e rules at).names)))

any_numbers : (p : ℕ → Bool) (es : List ExprId) → list_any (λ (e : ExprId). p e.0) es ≡ list_any p (numbers es)
any_numbers p [] = refl
any_numbers p (e ∷ es) = ap (λ b. p e.0 || b) (any_numbers p es)

pub inside_lead : (q : Pooled) (k : ℕ) (e : Expr) (n : ℕ) → IsPool q → slice_get q.exprs k ≡ Some e → is_among (inside q k) n ≡ (is_among (numbers (named e)) n || list_any (λ j. is_among (inside q j) n) (numbers (named e)))
inside_lead q k e n rules at =
    ap (λ ss. is_among ss n) (inside_is q k e rules at)
    ∙ any-append (λ y. y == n) (numbers (named e)) (flat_map (λ (a : ExprId). inside q a.0) (named e))
    ∙ ap (λ b. is_among (numbers (named e)) n || b) (among_flat (λ (a : ExprId). inside q a.0) (named e) n ∙ any_numbers (λ j. is_among (inside q j) n) (named e))

-- ---- marks below a bound, by a list

below_agree : (p q : ℕ → Bool) (k : ℕ) → ((j : ℕ) → j < k → p j ≡ q j) → any_below p k ≡ any_below q k
below_agree p q zero h = refl
below_agree p q (suc k) h = let a = h k (omega arith) in let b = below_agree p q k (λ j low. h j (omega (arith, low))) in cc

-- marks that are exactly those of a list
below_list : (q : ℕ → Bool) (ws : List ℕ) (marks : List Bool) (n : ℕ) → AllByRecursion (λ w. w < n) ws → ((j : ℕ) → j < n → is_marked marks j ≡ is_among ws j) → any_below (λ j. is_marked marks j && q j) n ≡ list_any q ws
below_list q ws marks n low same =
    below_agree (λ j. is_marked marks j && q j) (λ j. is_marked (marked ws (replicate n false)) j && q j) n (λ j h. ap (λ b. b && q j) (same j h ∙ sym (fresh j)))
    ∙ more_below q ws (replicate n false) n low (omega (arith, length-replicate n false))
    ∙ ap (λ b. list_any q ws || b) (none_below q n n)
    ∙ or_false (list_any q ws)
  where
    fresh : (j : ℕ) → is_marked (marked ws (replicate n false)) j ≡ is_among ws j
    fresh j = marked_at ws (replicate n false) j (subst (λ m. AllByRecursion (λ w. w < m) ws) (sym (length-replicate n false)) low) ∙ ap (λ b. b || is_among ws j) (fresh_marks n j)

-- what the marks of some expressions come to
pub within_is : (q : Pooled) (roots : List ExprId) (none marks : List Bool) (n : ℕ) → AllBelow (length q.exprs) roots → length none ≡ length q.exprs → ((j : ℕ) → is_marked none j ≡ false) → marks ≡ marked (numbers roots) none → comes_out (inside q) marks marks (length q.exprs) n ≡ is_within q roots n
within_is q roots none marks n there size fresh is =
    let ws = numbers roots in
    let low : AllByRecursion (λ w. w < length q.exprs) ws = below_all (length q.exprs) roots there in
    let first : (j : ℕ) → is_marked marks j ≡ is_among ws j =
    λ j. ap (λ ms. is_marked ms j) is ∙ marked_at ws none j (subst (λ m. AllByRecursion (λ w. w < m) ws) (sym size) low) ∙ ap (λ b. b || is_among ws j) (fresh j) in
    ap (λ b. b || any_below (λ j. is_marked marks j && is_among (inside q j) n) (length q.exprs)) (first n)
    ∙ ap (λ b. is_among ws n || b) (below_list (λ j. is_among (inside q j) n) ws marks (length q.exprs) low (λ j h. first j) ∙ sym (among_flat (inside q) ws n))
    ∙ sym (any-append (λ x. x == n) ws (flat_map (inside q) ws))

-- ---- all fragments

pub first_there : (n : ℕ) (i : ℕ) (roots : List (List ExprId)) → AllByRecursion (AllBelow n) roots → AllBelow n (first_roots i roots)
first_there n zero roots h = tt
first_there n (suc i) [] h = tt
first_there n (suc i) (es ∷ roots) h = joined es (first_roots i roots) h.0 (first_there n i roots h.1)
  where
    joined : (xs ys : List ExprId) → AllBelow n xs → AllBelow n ys → AllBelow n (xs ++ ys)
    joined [] ys a b = b
    joined (x ∷ xs) ys a b = (a.0, joined xs ys a.1 b)
