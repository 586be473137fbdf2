-- The purpose of a value, by the first target and by what trails last.
use Rattle.std.proofs.Common.{◌≡◌, ℕ, zero, suc, ◌-◌, ◌<◌, ◌≤◌, refl, ap, ◌∙◌, sym, List, [], ◌∷◌, map, length, get_or, Some, arith}
use Rattle.std.specs.List.{slice_get}
use Rattle.std.proofs.lemmas.Option.{slice_get_read}
use Rattle.py_tree.specs.declared.expr.Expr.{Expr}
use Rattle.py_tree.specs.declared.expr.Trailer.{Trailer as Trailing}
use Rattle.py_tree.specs.Seen.{tree, trailer_of}
use Rattle.py_tree.specs.Tree.{trees, Trailers, no_trailer, trailer, trailers, Trailer, Attribute, Call, CallOf, Index, Slice}
use Rattle.py_frames.specs.declared.frame.Purpose.{Purpose}
use Rattle.py_frames.specs.declared.frame.Purpose.TheVariants.{Plain}
use Rattle.py_frames.specs.Statements.{purpose_of, target_purpose, trailers_purpose, trailer_purpose}

more_trails : (t u : Trailer) (us : Trailers) → trailer_purpose t (trailer u us) ≡ trailer_purpose u us
more_trails (Attribute n) u us = refl
more_trails (Call gs) u us = refl
more_trails (CallOf a c) u us = refl
more_trails (Index a) u us = refl
more_trails (Slice a b c) u us = refl

last_at : (xs : List Trailing) (n : ℕ) (t : Trailing) → suc n ≡ length xs → slice_get xs n ≡ Some t → trailers_purpose (trailers (map trailer_of xs)) ≡ trailer_purpose (trailer_of t) no_trailer
last_at [] n t e h = cc
last_at (x ∷ []) zero t e h = let q : x ≡ t = cc in ap (λ z. trailer_purpose (trailer_of z) no_trailer) q
last_at (x ∷ []) (suc n) t e h = cc
last_at (x ∷ y ∷ ys) zero t e h = absurd (omega arith)
last_at (x ∷ y ∷ ys) (suc n) t e h =
    let q : suc n ≡ length (y ∷ ys) = omega arith in
    more_trails (trailer_of x) (trailer_of y) (trailers (map trailer_of ys)) ∙ last_at (y ∷ ys) n t q h

pub last_purpose : (xs : List Trailing) (t : Trailing) (u : Purpose) → 0 < length xs → t ≡ get_or xs (length xs - 1) t → u ≡ trailer_purpose (trailer_of t) no_trailer → u ≡ trailers_purpose (trailers (map trailer_of xs))
last_purpose xs t u h e q =
    let b : length xs - 1 < length xs = omega arith in
    let s : suc (length xs - 1) ≡ length xs = omega arith in
    q ∙ sym (last_at xs (length xs - 1) t s (slice_get_read xs (length xs) (length xs - 1) t refl b e))

pub lacks_last : (xs : List Trailing) → length xs ≤ 0 → Plain ≡ trailers_purpose (trailers (map trailer_of xs))
lacks_last [] h = refl
lacks_last (x ∷ xs) h = absurd (omega arith)

first_at : (xs : List Expr) (t : Expr) → slice_get xs 0 ≡ Some t → purpose_of (trees (map tree xs)) ≡ target_purpose (tree t)
first_at [] t h = cc
first_at (x ∷ xs) t h = let q : x ≡ t = cc in ap (λ z. target_purpose (tree z)) q

pub first_purpose : (xs : List Expr) (t : Expr) (u : Purpose) → 0 < length xs → t ≡ get_or xs 0 t → u ≡ target_purpose (tree t) → u ≡ purpose_of (trees (map tree xs))
first_purpose xs t u h e q = q ∙ sym (first_at xs t (slice_get_read xs (length xs) 0 t refl h e))

pub lacks_first : (xs : List Expr) → length xs ≤ 0 → Plain ≡ purpose_of (trees (map tree xs))
lacks_first [] h = refl
lacks_first (x ∷ xs) h = absurd (omega arith)

pub ruleset last_rules = (last_purpose, lacks_last)

pub ruleset first_rules = (first_purpose, lacks_first)
