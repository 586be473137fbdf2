-- The turns of the walk over a format string.
use Rattle.std.proofs.Common.{◌≡◌, ℕ, zero, suc, refl, ap, sym, ◌∙◌, arith, ◌<◌, length, drop, List, [], ◌∷◌, ◌++◌, ◌-◌, take}
use Rattle.std.specs.Prelude.{Bool, true, false, if◌then◌else◌, Option, None}
use Rattle.py_tree.specs.declared.name.Piece.{Piece}
use Rattle.py_tree.specs.declared.name.Piece.TheVariants as piece
use Rattle.py_words.specs.Words_of.{pieces_from, opens_hole, hole_width, format_meaning, format_width, with_text, with_piece}

no_text : (text : List ℕ) → with_text text None ≡ None
no_text [] = refl
no_text (b ∷ bs) = refl

either_none : (b : Bool) (x y : Option (List Piece)) → x ≡ None → y ≡ None → (if b then x else y) ≡ None
either_none true x y h g = h
either_none false x y h g = g

-- where a piece is no text, there are no pieces
pub no_pieces : (text : List ℕ) (left : ℕ) (bs : List ℕ) → pieces_from None text left bs ≡ None
unfolding pieces_from
no_pieces text left [] = no_text text
no_pieces text (suc left) (b ∷ bs) = no_pieces text left bs
no_pieces text zero (b ∷ bs) =
    let name = take (hole_width (b ∷ bs) - 1) bs in
    let hole : with_piece piece.Hole name (with_text text None) ≡ None = ap (with_piece piece.Hole name) (no_text text) in
    either_none (opens_hole (b ∷ bs)) _ _
    (ap (λ (ps : Option (List Piece)). pieces_from ps [] (hole_width (b ∷ bs)) bs) hole ∙ no_pieces [] (hole_width (b ∷ bs)) bs)
    (no_pieces (text ++ format_meaning (b ∷ bs)) (format_width (b ∷ bs) - 1) bs)

branch_by : {A : Type 0} (b c : Bool) (x y : A) → b ≡ c → (if b then x else y) ≡ (if c then x else y)
branch_by b c x y h = ap (λ z. if z then x else y) h

pub left_turn : (ps : Option (List Piece)) (text : List ℕ) (left : ℕ) (bs : List ℕ) → 0 < left → 0 < length bs → pieces_from ps text left bs ≡ pieces_from ps text (left - 1) (drop 1 bs)
unfolding pieces_from
left_turn ps text zero (b ∷ bs) h g = absurd (omega arith)
left_turn ps text (suc left) (b ∷ bs) h g = let same : suc left - 1 ≡ left = omega arith in ap (λ n. pieces_from ps text n bs) (sym same)
left_turn ps text left [] h g = absurd (omega arith)

pub text_turn : (ps : Option (List Piece)) (text : List ℕ) (bs : List ℕ) → 0 < length bs → opens_hole bs ≡ false → pieces_from ps text 0 bs ≡ pieces_from ps (text ++ format_meaning bs) (format_width bs - 1) (drop 1 bs)
unfolding pieces_from
text_turn ps text [] g h = absurd (omega arith)
text_turn ps text (b ∷ bs) g h = branch_by (opens_hole (b ∷ bs)) false _ _ h

pub hole_turn : (ps : Option (List Piece)) (text : List ℕ) (bs : List ℕ) → 0 < length bs → opens_hole bs ≡ true → pieces_from ps text 0 bs ≡ pieces_from (with_piece piece.Hole (take (hole_width bs - 1) (drop 1 bs)) (with_text text ps)) [] (hole_width bs) (drop 1 bs)
unfolding pieces_from
hole_turn ps text [] g h = absurd (omega arith)
hole_turn ps text (b ∷ bs) g h = branch_by (opens_hole (b ∷ bs)) true _ _ h

-- a hole whose name, or the text before it, is no text
pub hole_fails : (ps : Option (List Piece)) (text : List ℕ) (bs : List ℕ) → 0 < length bs → opens_hole bs ≡ true → with_piece piece.Hole (take (hole_width bs - 1) (drop 1 bs)) (with_text text ps) ≡ None → pieces_from ps text 0 bs ≡ None
hole_fails ps text bs g h none = hole_turn ps text bs g h ∙ (ap (λ (z : Option (List Piece)). pieces_from z [] (hole_width bs) (drop 1 bs)) none ∙ no_pieces [] (hole_width bs) (drop 1 bs))

pub ruleset turns = (left_turn, text_turn, hole_turn, no_pieces)
