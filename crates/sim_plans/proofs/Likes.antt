-- Lists among which the same numbers are.
use Rattle.std.specs.Prelude.{◌≡◌, refl, ℕ, ◌+◌, ◌<◌, ◌≤◌, ◌==◌, ◌||◌, Bool, true, false, List, [], ◌∷◌, ◌++◌, drop, length}
use Rattle.std.specs.List.{flat_map, list_any}
use Rattle.std.proofs.Common.{sym, ◌∙◌, ap, append_assoc, append-nil, get_or}
use Rattle.std.proofs.lemmas.Bool.{eqb-true}
use Rattle.std.proofs.lemmas.List.{at_drop_more, at_drop_all}
use Rattle.design_ir.specs.declared.ids.SigId.{SigId}
use Rattle.design_ir.specs.declared.ids.ExprId.{ExprId}
use Rattle.design_ir.specs.Circuits.{is_among}
use Rattle.sim_plans.specs.Driven.{numbers_of, IsLike}

or_assoc : (a b c : Bool) → ((a || b) || c) ≡ (a || (b || c))
or_assoc true b c = refl
or_assoc false b c = refl

or_false : (a : Bool) → (a || false) ≡ a
or_false true = refl
or_false false = refl

pub among_append : (xs ys : List ℕ) (s : ℕ) → is_among (xs ++ ys) s ≡ (is_among xs s || is_among ys s)
among_append [] ys s = refl
among_append (x ∷ xs) ys s = ap (λ b. (x == s) || b) (among_append xs ys s) ∙ sym (or_assoc (x == s) (is_among xs s) (is_among ys s))

pub numbers_append : (xs ys : List SigId) → numbers_of (xs ++ ys) ≡ numbers_of xs ++ numbers_of ys
numbers_append [] ys = refl
numbers_append (x ∷ xs) ys = ap (λ zs. x.0 ∷ zs) (numbers_append xs ys)

-- both parts alike
pub like_append : (xs ys xs' ys' : List ℕ) → IsLike xs xs' → IsLike ys ys' → IsLike (xs ++ ys) (xs' ++ ys')
like_append xs ys xs' ys' h k = λ s.
    among_append xs ys s ∙ ap (λ b. b || is_among ys s) (h s) ∙ ap (λ b. is_among xs' s || b) (k s) ∙ sym (among_append xs' ys' s)

-- more at the end, and the rest behind it
pub like_turn : (old new x rest all : List ℕ) → IsLike new (old ++ x) → IsLike (old ++ (x ++ rest)) all → IsLike (new ++ rest) all
like_turn old new x rest all h k = λ s.
    like_append new rest (old ++ x) rest h (λ t. refl) s ∙ ap (λ ys. is_among ys s) (append_assoc old x rest) ∙ k s

among_numbers : (xs : List SigId) (s : ℕ) → list_any (λ (x : SigId). x.0 == s) xs ≡ is_among (numbers_of xs) s
among_numbers [] s = refl
among_numbers (x ∷ xs) s = ap (λ b. (x.0 == s) || b) (among_numbers xs s)

-- what is there already is no more
pub there_already : (xs : List SigId) (s : SigId) (r : Bool) → r ≡ true → r ≡ list_any (λ (x : SigId). x.0 == s.0) xs → IsLike (numbers_of xs) (numbers_of xs ++ s.0 ∷ [])
there_already xs s r holds is = λ t. same t (s.0 == t) refl ∙ sym (among_append (numbers_of xs) (s.0 ∷ []) t ∙ ap (λ b. is_among (numbers_of xs) t || b) (or_false (s.0 == t)))
  where
    here : is_among (numbers_of xs) s.0 ≡ true
    here = sym (among_numbers xs s.0) ∙ sym is ∙ holds

    or_true : (a : Bool) → a ≡ true → a ≡ (a || true)
    or_true true e = refl
    or_true false e = e

    same : (t : ℕ) (b : Bool) → (s.0 == t) ≡ b → is_among (numbers_of xs) t ≡ (is_among (numbers_of xs) t || (s.0 == t))
    same t true e =
        or_true (is_among (numbers_of xs) t) (ap (is_among (numbers_of xs)) (sym (eqb-true s.0 t e)) ∙ here) ∙ ap (λ b. is_among (numbers_of xs) t || b) (sym e)
    same t false e = sym (ap (λ b. is_among (numbers_of xs) t || b) e ∙ or_false (is_among (numbers_of xs) t))

-- one more of a list
pub numbers_at : (xs : List SigId) (i : ℕ) (x : SigId) → i < length xs → x ≡ get_or xs i x → numbers_of (drop i xs) ≡ x.0 ∷ numbers_of (drop (i + 1) xs)
numbers_at xs i x h is = at_drop_more numbers_of xs i x h ∙ ap (λ (y : SigId). y.0 ∷ numbers_of (drop (i + 1) xs)) (sym is)

pub flat_at : (f : ExprId → List ℕ) (es : List ExprId) (i : ℕ) (e : ExprId) → i < length es → e ≡ get_or es i e → flat_map f (drop i es) ≡ f e ++ flat_map f (drop (i + 1) es)
flat_at f es i e h is = at_drop_more (flat_map f) es i e h ∙ ap (λ x. f x ++ flat_map f (drop (i + 1) es)) (sym is)

-- nothing is left
pub flat_end : (f : ExprId → List ℕ) (es : List ExprId) (i : ℕ) (xs all : List ℕ) → length es ≤ i → IsLike (xs ++ flat_map f (drop i es)) all → IsLike xs all
flat_end f es i xs all h like = λ s. ap (λ ys. is_among ys s) (sym (ap (λ ys. xs ++ ys) (at_drop_all (flat_map f) es i h) ∙ append-nil xs)) ∙ like s

pub flat_turn : (f : ExprId → List ℕ) (es : List ExprId) (i : ℕ) (e : ExprId) (old new x all : List ℕ) → i < length es → e ≡ get_or es i e → x ≡ f e → IsLike new (old ++ x) → IsLike (old ++ flat_map f (drop i es)) all → IsLike (new ++ flat_map f (drop (i + 1) es)) all
flat_turn f es i e old new x all h is here grown known =
    like_turn old new x (flat_map f (drop (i + 1) es)) all grown
    (λ s. ap (λ ys. is_among (old ++ ys) s) (ap (λ ys. ys ++ flat_map f (drop (i + 1) es)) here ∙ sym (flat_at f es i e h is)) ∙ known s)
