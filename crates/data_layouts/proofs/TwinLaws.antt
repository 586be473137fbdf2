-- Twins among names, told from the front.
use Rattle.std.proofs.Common.{◌≡◌, ℕ, Bool, true, false, ◌||◌, ◌==◌, List, [], ◌∷◌, ◌++◌, refl, ap, sym, ◌∙◌, arith}
use Rattle.std.specs.Prelude.{String, string_bytes, map}
use Rattle.std.specs.Str.{bytes_eq}
use Rattle.std.specs.String.{string_eq}
use Rattle.std.specs.List.{list_any}
use Rattle.lists.specs.Texts.{text_eq}
use Rattle.data_layouts.specs.Names.{has_twins}

-- a name is one of those seen, or a later one is
abbrev pub has_seen : List (List ℕ) → List (List ℕ) → Bool
has_seen seen [] = false
has_seen seen (n ∷ ns) = list_any (text_eq n) seen || has_seen (seen ++ n ∷ []) ns

eqb_turned : (x y : ℕ) → (x == y) ≡ (y == x)
eqb_turned x y = grind arith

text_eq_turned : (a b : List ℕ) → text_eq a b ≡ text_eq b a
text_eq_turned [] [] = refl
text_eq_turned [] (y ∷ ys) = refl
text_eq_turned (x ∷ xs) [] = refl
text_eq_turned (x ∷ xs) (y ∷ ys) = rw (eqb_turned x y, text_eq_turned xs ys) refl

or_assoc : (a b c : Bool) → ((a || b) || c) ≡ (a || (b || c))
or_assoc true b c = refl
or_assoc false b c = refl

or_turned : (a b : Bool) → (a || b) ≡ (b || a)
or_turned true true = refl
or_turned true false = refl
or_turned false true = refl
or_turned false false = refl

any_more : (n m : List ℕ) (seen : List (List ℕ)) → list_any (text_eq m) (seen ++ n ∷ []) ≡ (list_any (text_eq m) seen || text_eq n m)
any_more n m [] = or_turned (text_eq m n) false ∙ text_eq_turned m n
any_more n m (s ∷ ss) = ap (λ b. text_eq m s || b) (any_more n m ss) ∙ sym (or_assoc (text_eq m s) (list_any (text_eq m) ss) (text_eq n m))

-- whether one of the names was seen
abbrev any_seen : List (List ℕ) → List (List ℕ) → Bool
any_seen seen ns = list_any (λ n. list_any (text_eq n) seen) ns

or_swapped : (a b c d : Bool) → ((a || b) || (c || d)) ≡ ((a || c) || (b || d))
or_swapped true b c d = refl
or_swapped false true true d = refl
or_swapped false true false d = refl
or_swapped false false c d = refl

any_seen_more : (n : List ℕ) (seen ns : List (List ℕ)) → any_seen (seen ++ n ∷ []) ns ≡ (any_seen seen ns || list_any (text_eq n) ns)
any_seen_more n seen [] = refl
any_seen_more n seen (m ∷ ms) =
    (λ i. any_more n m seen i || any_seen_more n seen ms i) ∙ or_swapped (list_any (text_eq m) seen) (text_eq n m) (any_seen seen ms) (list_any (text_eq n) ms)

has_seen-split : (seen ns : List (List ℕ)) → has_seen seen ns ≡ (any_seen seen ns || has_twins ns)
has_seen-split seen [] = refl
has_seen-split seen (n ∷ ns) =
    ap (λ b. list_any (text_eq n) seen || b) (has_seen-split (seen ++ n ∷ []) ns ∙ ap (λ b. b || has_twins ns) (any_seen_more n seen ns))
    ∙ ap (λ b. list_any (text_eq n) seen || b) (or_assoc (any_seen seen ns) (list_any (text_eq n) ns) (has_twins ns))
    ∙ sym (or_assoc (list_any (text_eq n) seen) (any_seen seen ns) (list_any (text_eq n) ns || has_twins ns))

none_seen : (ns : List (List ℕ)) → any_seen [] ns ≡ false
none_seen [] = refl
none_seen (n ∷ ns) = none_seen ns

-- nothing is seen at first
pub has_seen-none : (ns : List (List ℕ)) → has_twins ns ≡ has_seen [] ns
has_seen-none ns = sym (has_seen-split [] ns ∙ ap (λ b. b || has_twins ns) (none_seen ns))

-- ---- names as a set keeps them

bytes_eq-text_eq : (xs ys : List ℕ) → bytes_eq xs ys ≡ text_eq xs ys
bytes_eq-text_eq [] [] = refl
bytes_eq-text_eq [] (y ∷ ys) = refl
bytes_eq-text_eq (x ∷ xs) [] = refl
bytes_eq-text_eq (x ∷ xs) (y ∷ ys) = rw (bytes_eq-text_eq xs ys) refl

any_same : {Y : Type 0} (k : String Y) (keys : List (String Y)) → list_any (string_eq k) keys ≡ list_any (text_eq (string_bytes k)) (map string_bytes keys)
any_same k [] = refl
any_same k (y ∷ ys) = rw (bytes_eq-text_eq (string_bytes k) (string_bytes y), any_same k ys) refl

pub is_seen : {Y : Type 0} (k : String Y) (keys : List (String Y)) (name : List ℕ) (seen : List (List ℕ)) → string_bytes k ≡ name → map string_bytes keys ≡ seen → list_any (string_eq k) keys ≡ list_any (text_eq name) seen
is_seen k keys name seen n s = any_same k keys ∙ (λ i. list_any (text_eq (n i)) (s i))
