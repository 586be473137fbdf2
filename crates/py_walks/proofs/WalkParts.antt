-- The parts of targets and of comprehensions, as the code and as the meaning come to them.
use Rattle.std.proofs.Common.{◌≡◌, ℕ, zero, suc, ◌≤◌, refl, ap, ◌∙◌, sym, subst, List, [], ◌∷◌, length, Option, Some, None, map}
use Rattle.std.specs.List.{slice_get}
use Rattle.std.proofs.lemmas.Option.{slice_get_past}
use Rattle.py_tree.specs.declared.expr.Expr.{Expr}
use Rattle.py_tree.specs.declared.expr.Trailer.{Trailer as Trailing}
use Rattle.py_tree.specs.Seen.{tree, trailer_of}
use Rattle.py_tree.specs.Tree.{trees, trailers, Trailer, Attribute, Call, CallOf, Index, Slice, Trailers, trailer}
use Rattle.py_frames.specs.declared.leaf.PartAt.{PartAt}
use Rattle.py_walks.specs.declared.walk_parts.CompParts.{CompParts}
use Rattle.py_frames.specs.Parts.{tree_count, trailers_from}
use Rattle.py_frames.specs.Walk_frames.{Comp, comp_at}
use Rattle.py_walks.specs.Walk_parts.{comp_here, FoundComp}

pub tree_count_trees : (es : List Expr) → tree_count (trees (map tree es)) ≡ length es
tree_count_trees [] = refl
tree_count_trees (e ∷ es) = ap (λ (n : ℕ). suc n) (tree_count_trees es)

at_head : (t : Trailer) (ts : Trailers) → comp_at (trailer t ts) ≡ comp_here t
at_head (Attribute n) ts = refl
at_head (Call gs) ts = refl
at_head (CallOf t c) ts = refl
at_head (Index t) ts = refl
at_head (Slice a b c) ts = refl

past : (n : ℕ) (xs : List Trailing) → slice_get xs n ≡ None → comp_at (trailers_from n (trailers (map trailer_of xs))) ≡ None
past zero [] h = refl
past (suc n) [] h = refl
past zero (x ∷ xs) h = cc
past (suc n) (x ∷ xs) h = past n xs h

here : (n : ℕ) (xs : List Trailing) (x : Trailing) → slice_get xs n ≡ Some x → comp_at (trailers_from n (trailers (map trailer_of xs))) ≡ comp_here (trailer_of x)
here n [] x h = cc
here zero (y ∷ xs) x h = let e : y ≡ x = cc in at_head (trailer_of y) (trailers (map trailer_of xs)) ∙ ap (λ z. comp_here (trailer_of z)) e
here (suc n) (y ∷ xs) x h = here n xs x h

pub comp_at_past : (n : ℕ) (xs : List Trailing) → length xs ≤ n → comp_at (trailers_from n (trailers (map trailer_of xs))) ≡ None
comp_at_past n xs h = past n xs (slice_get_past xs n h)

pub comp_at_here : (n : ℕ) (xs : List Trailing) (x : Trailing) (found : PartAt CompParts) → slice_get xs n ≡ Some x → FoundComp found (comp_here (trailer_of x)) → FoundComp found (comp_at (trailers_from n (trailers (map trailer_of xs))))
comp_at_here n xs x found e h = let P : Option Comp → Type 0 = λ o. FoundComp found o in subst P (sym (here n xs x e)) h
