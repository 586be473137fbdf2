-- Elements of lists of expressions.
use Rattle.std.specs.Prelude.{◌≡◌, refl, ℕ, zero, suc, ◌+◌, ◌<◌, ◌-◌, min, List, [], ◌∷◌, map, length, slice_get, slice_index_or, Some}
use Rattle.std.proofs.Common.{sym, ◌∙◌, ap, subst, arith, drop, get_or}
use Rattle.std.proofs.lemmas.List.{at_drop_more}
use Rattle.design_ir.specs.declared.ids.ExprId.{ExprId}
use Rattle.design_ir.specs.Named.{AllBelow}
use Rattle.design_ir.specs.Values.{picked}

pub below_at : (n : ℕ) (es : List ExprId) (i : ℕ) (e : ExprId) → AllBelow n es → slice_get es i ≡ Some e → e.0 < n
below_at n [] i e h is = cc
below_at n (x ∷ es) zero e h is = let same : x ≡ e = cc in omega (arith, h.0, ap (λ (y : ExprId). y.0) same)
below_at n (x ∷ es) (suc i) e h is = below_at n es i e h.1 is

pub mapped_at : {A : Type 0} (f : ℕ → A) (d : A) (es : List ExprId) (i : ℕ) (e : ExprId) → slice_get es i ≡ Some e → slice_index_or (map (λ (x : ExprId). f x.0) es) i d ≡ f e.0
mapped_at f d [] i e is = cc
mapped_at f d (x ∷ es) zero e is = let same : x ≡ e = cc in ap (λ (y : ExprId). f y.0) same
mapped_at f d (x ∷ es) (suc i) e is = mapped_at f d es i e is

pub mapped_length : {A : Type 0} (f : ℕ → A) (es : List ExprId) → length (map (λ (x : ExprId). f x.0) es) ≡ length es
mapped_length f [] = refl
mapped_length f (x ∷ es) = ap suc (mapped_length f es)

-- the item that an index picks
pub picked_is : {A : Type 0} (f : ℕ → A) (d : A) (es : List ExprId) (index place : ℕ) (e : ExprId) → place ≡ min index (length es - 1) → slice_get es place ≡ Some e → picked d (map (λ (x : ExprId). f x.0) es) index ≡ f e.0
picked_is f d es index place e at is =
    ap (λ n. slice_index_or (map (λ (x : ExprId). f x.0) es) (min index (n - 1)) d) (mapped_length f es)
    ∙ ap (λ n. slice_index_or (map (λ (x : ExprId). f x.0) es) n d) (sym at)
    ∙ mapped_at f d es place e is

pub some_length : {A : Type 0} (xs : List A) → (xs ≡ [] → ⊥) → 0 < length xs
some_length [] h = absurd (h refl)
some_length (x ∷ xs) h = omega arith

-- an element of a list that is another one, where it is there
pub below_index : (n : ℕ) (es all : List ExprId) (i : ℕ) (d : ExprId) → AllBelow n es → all ≡ es → i < length es → (slice_index_or all i d).0 < n
below_index n es all i d h same there = subst (λ xs. (slice_index_or xs i d).0 < n) (sym same) (here es i h there)
  where
    here : (es : List ExprId) (i : ℕ) → AllBelow n es → i < length es → (slice_index_or es i d).0 < n
    here [] i h there = absurd (omega (arith, there))
    here (x ∷ es) zero h there = h.0
    here (x ∷ es) (suc i) h there = here es i h.1 (omega (arith, there))

pub below_next : (n : ℕ) (es : List ExprId) (i : ℕ) (e : ExprId) → i < length es → e ≡ get_or es i e → AllBelow n (drop i es) → AllBelow n (drop (i + 1) es)
below_next n es i e h is all =
    let split = subst (AllBelow n) (at_drop_more (λ ys. ys) es i e h ∙ ap (λ x. x ∷ drop (i + 1) es) (sym is)) all in split.1
