-- Marks, as one number after another is marked.
use Rattle.std.proofs.Common.{◌≡◌, ◌∙◌, inl, inr, ℕ, zero, suc, ◌+◌, ◌<◌, Bool, true, false, List, [], ◌∷◌, ◌++◌, length, take, Some, slice_get, replicate, refl, sym, ap, subst, arith, append_assoc}
use Rattle.std.specs.List.{flat_map}
use Rattle.std.proofs.lemmas.Bool.{cases_lt, false≢true}
use Rattle.std.proofs.lemmas.Grind.{flat_map-append}
use Rattle.std.proofs.lemmas.List.{append-nil, map-append, get_or_past}
use Rattle.std.proofs.lemmas.List.Elements.{Contains-append_left, Contains-append_right, Contains-append_cases}
use Rattle.design_ir.specs.declared.ids.ExprId.{ExprId}
use Rattle.design_ir.specs.declared.stmt.Stmt.{Stmt}
use Rattle.design_ir.specs.declared.stmt.Arm.{Arm}
use Rattle.design_ir.specs.Statements.{statement_of, block_of, choices_of}
use Rattle.comb_graph.specs.CombTargets.{is_marked, IsMarked, statement_targets, choices_targets, block_targets, numbers}
use Rattle.digraph.proofs.Takes.{take-push}

pub marked_none : (marks : List Bool) → IsMarked [] marks marks
marked_none marks = record { size = refl; kept = λ n is. is; added = λ n in'. absurd (omega (arith, in'.1)); only = λ n is. inl is }

pub marked_then : (xs ys : List ℕ) (a b c : List Bool) → IsMarked xs a b → IsMarked ys b c → IsMarked (xs ++ ys) a c
marked_then xs ys a b c h k = record {
  size = k.size ∙ h.size;
  kept = λ n is. k.kept n (h.kept n is);
  added = λ n in'. elim (Contains-append_cases xs ys n in') [ inl left ↦ k.kept n (h.added n left) | inr right ↦ k.added n right ];
  only = λ n is. elim (k.only n is) [
    | inl before ↦ elim (h.only n before) [ inl first ↦ inl first | inr left ↦ inr (Contains-append_left xs ys n left) ]
    | inr right ↦ inr (Contains-append_right xs ys n right)
  ];
}

marked_as : (xs ys : List ℕ) (a b : List Bool) → ys ≡ xs → IsMarked xs a b → IsMarked ys a b
marked_as xs ys a b same h = subst (λ zs. IsMarked zs a b) (sym same) h

-- what is marked is one of the marks
pub marked_inside : (marks : List Bool) (n : ℕ) → is_marked marks n ≡ true → n < length marks
marked_inside marks n is =
    elim (cases_lt n (length marks)) [ inl below ↦ below | inr end ↦ absurd (false≢true (sym (get_or_past marks n false (omega (arith, end))) ∙ is)) ]

pub fresh_marks : (k n : ℕ) → is_marked (replicate k false) n ≡ false
fresh_marks zero n = refl
fresh_marks (suc k) zero = refl
fresh_marks (suc k) (suc n) = fresh_marks k n

-- ---- turns of loops

-- the numbers that one element more gives
pub marked_turn : {X : Type 0} (f : X → List ℕ) (items : List X) (i : ℕ) (x : X) (a b c : List Bool) → slice_get items i ≡ Some x → IsMarked (flat_map f (take i items)) a b → IsMarked (f x) b c
    → IsMarked (flat_map f (take (i + 1) items)) a c
marked_turn f items i x a b c at h k =
    let split : flat_map f (take (i + 1) items) ≡ flat_map f (take i items) ++ f x =
    ap (flat_map f) (take-push items i x at) ∙ flat_map-append f (take i items) (x ∷ []) ∙ ap (λ ys. flat_map f (take i items) ++ ys) (append-nil (f x)) in
    marked_as (flat_map f (take i items) ++ f x) (flat_map f (take (i + 1) items)) a c split (marked_then (flat_map f (take i items)) (f x) a b c h k)

pub numbers_turn : (items : List ExprId) (i : ℕ) (x : ExprId) (a b c : List Bool) → slice_get items i ≡ Some x → IsMarked (numbers (take i items)) a b → IsMarked (x.0 ∷ []) b c → IsMarked (numbers (take (i + 1) items)) a c
numbers_turn items i x a b c at h k =
    let split : numbers (take (i + 1) items) ≡ numbers (take i items) ++ x.0 ∷ [] = ap numbers (take-push items i x at) ∙ map-append (λ (e : ExprId). e.0) (take i items) (x ∷ []) in
    marked_as (numbers (take i items) ++ x.0 ∷ []) (numbers (take (i + 1) items)) a c split (marked_then (numbers (take i items)) (x.0 ∷ []) a b c h k)

block-push : (ss : List Stmt) (s : Stmt) → block_targets (block_of (ss ++ s ∷ [])) ≡ block_targets (block_of ss) ++ statement_targets (statement_of s)
block-push [] s = append-nil (statement_targets (statement_of s))
block-push (t ∷ ss) s =
    ap (λ xs. statement_targets (statement_of t) ++ xs) (block-push ss s) ∙ sym (append_assoc (statement_targets (statement_of t)) (block_targets (block_of ss)) (statement_targets (statement_of s)))

arms-push : (arms : List Arm) (x : Arm) → choices_targets (choices_of (arms ++ x ∷ [])) ≡ choices_targets (choices_of arms) ++ block_targets x.body
arms-push [] x = append-nil (block_targets x.body)
arms-push (y ∷ arms) x =
    ap (λ xs. block_targets y.body ++ xs) (arms-push arms x) ∙ sym (append_assoc (block_targets y.body) (choices_targets (choices_of arms)) (block_targets x.body))

pub block_turn : (ss : List Stmt) (i : ℕ) (s : Stmt) (a b c : List Bool) → slice_get ss i ≡ Some s → IsMarked (block_targets (block_of (take i ss))) a b → IsMarked (statement_targets (statement_of s)) b c
    → IsMarked (block_targets (block_of (take (i + 1) ss))) a c
block_turn ss i s a b c at h k =
    let xs = block_targets (block_of (take i ss)) in
    let ys = statement_targets (statement_of s) in
    marked_as (xs ++ ys) (block_targets (block_of (take (i + 1) ss))) a c (ap (λ zs. block_targets (block_of zs)) (take-push ss i s at) ∙ block-push (take i ss) s) (marked_then xs ys a b c h k)

pub arms_turn : (arms : List Arm) (i : ℕ) (x : Arm) (a b c : List Bool) → slice_get arms i ≡ Some x → IsMarked (choices_targets (choices_of (take i arms))) a b → IsMarked (block_targets x.body) b c
    → IsMarked (choices_targets (choices_of (take (i + 1) arms))) a c
arms_turn arms i x a b c at h k =
    let xs = choices_targets (choices_of (take i arms)) in
    let ys = block_targets x.body in
    marked_as (xs ++ ys) (choices_targets (choices_of (take (i + 1) arms))) a c (ap (λ zs. choices_targets (choices_of zs)) (take-push arms i x at) ∙ arms-push (take i arms) x) (marked_then xs ys a b c h k)
