-- One element more of the rows of the table of aims.
use Rattle.std.proofs.Common.{◌≡◌, ◌∙◌, ℕ, zero, suc, ◌+◌, List, [], ◌∷◌, ◌++◌, ap, arith, take, drop, Option, Some, slice_get}
use Rattle.std.specs.List.{flat_map, filter_map, cons_option}
use Rattle.std.proofs.lemmas.List.{append-nil}
use Rattle.std.proofs.lemmas.Grind.{flat_map-append}
use Rattle.std.proofs.lemmas.List.Elements.{filter_map-append}
use Rattle.shape_rules.specs.Forms.{Form}
use Rattle.design_ir.specs.declared.ids.ExprId.{ExprId}
use Rattle.design_ir.specs.Values.{total_width}
use Rattle.digraph.proofs.GraphLists.{some-same}
use Rattle.digraph.proofs.Takes.{take-push}

drop_at : {X : Type 0} (xs : List X) (i : ℕ) (x : X) → slice_get xs i ≡ Some x → drop i xs ≡ x ∷ drop (suc i) xs
drop_at [] i x at = absurd cc
drop_at (y ∷ xs) zero x at = ap (λ z. z ∷ xs) (some-same y x at)
drop_at (y ∷ xs) (suc i) x at = drop_at xs i x at

pub drop-next : {X : Type 0} (xs : List X) (i : ℕ) (x : X) → slice_get xs i ≡ Some x → drop i xs ≡ x ∷ drop (i + 1) xs
drop-next xs i x at = let next : suc i ≡ i + 1 = omega arith in drop_at xs i x at ∙ ap (λ n. x ∷ drop n xs) next

pub filter_more : {X Y : Type 0} (f : X → Option Y) (xs : List X) (i : ℕ) (x : X) → slice_get xs i ≡ Some x → filter_map f (take (i + 1) xs) ≡ filter_map f (take i xs) ++ cons_option (f x) []
filter_more f xs i x at = ap (filter_map f) (take-push xs i x at) ∙ filter_map-append f (take i xs) (x ∷ [])

pub flat_more : {X Y : Type 0} (f : X → List Y) (xs : List X) (i : ℕ) (x : X) → slice_get xs i ≡ Some x → flat_map f (take (i + 1) xs) ≡ flat_map f (take i xs) ++ f x
flat_more f xs i x at = ap (flat_map f) (take-push xs i x at) ∙ flat_map-append f (take i xs) (x ∷ []) ∙ ap (λ ys. flat_map f (take i xs) ++ ys) (append-nil (f x))

pub widths_more : (form : ℕ → Form) (by : ℕ) (es : List ExprId) (i : ℕ) (e : ExprId) (all : ℕ) → slice_get es i ≡ Some e → by + total_width form (drop i es) ≡ all
    → by + (form e.0).width + total_width form (drop (i + 1) es) ≡ all
widths_more form by es i e all at is =
    let split : total_width form (drop i es) ≡ (form e.0).width + total_width form (drop (i + 1) es) = ap (total_width form) (drop-next es i e at) in
    omega (arith, is, split)
