-- A list of which some places are replaced.
use Rattle.std.specs.Prelude.{◌≡◌, refl, ℕ, zero, suc, ◌+◌, ◌-◌, ◌<◌, ◌≤◌, List, [], ◌∷◌, ◌++◌, length, take, drop, slice_get, slice_index_or, Some}
use Rattle.std.proofs.Common.{sym, ◌∙◌, ap, arith, subst, add-one, length-append, length-take, length-drop}
use Rattle.std.specs.Prelude.{All, Contains}
use Rattle.std.proofs.lemmas.Option.{slice_get_read}
use Rattle.std.proofs.lemmas.List.Elements.{All-append, All-take, All-drop}
use Rattle.flat_design.specs.Replaced.{replaced}
use Rattle.design_ir.proofs.Elements.{get_has, get_append_right, get_drop}

pub replaced_length : {A : Type 0} (xs : List A) (low : ℕ) (ys : List A) → low + length ys ≤ length xs → length (replaced xs low ys) ≡ length xs
replaced_length xs low ys h = simp (length-append, length-take, length-drop) (omega arith)

get_take_below : {A : Type 0} (n : ℕ) (xs zs : List A) (i : ℕ) → i < n → n ≤ length xs → slice_get (take n xs ++ zs) i ≡ slice_get xs i
get_take_below zero xs zs i h k = absurd (omega (arith, h))
get_take_below (suc n) [] zs i h k = absurd (omega (arith, k))
get_take_below (suc n) (x ∷ xs) zs zero h k = refl
get_take_below (suc n) (x ∷ xs) zs (suc i) h k = get_take_below n xs zs i (omega (arith, h)) (omega (arith, k))

pub replaced_below : {A : Type 0} (xs : List A) (low : ℕ) (ys : List A) (i : ℕ) → low + length ys ≤ length xs → i < low → slice_get (replaced xs low ys) i ≡ slice_get xs i
replaced_below xs low ys i h below = get_take_below low xs (ys ++ drop (low + length ys) xs) i below (omega (arith, h))

from_seam : {A : Type 0} (xs : List A) (low : ℕ) (zs : List A) (i : ℕ) → low ≤ length xs → slice_get (take low xs ++ zs) (low + i) ≡ slice_get zs i
from_seam xs low zs i h =
    let e : length (take low xs) ≡ low = simp length-take (omega arith) in
    rw e at (get_append_right (take low xs) zs i)

get_left : {A : Type 0} (xs ys : List A) (i : ℕ) → i < length xs → slice_get (xs ++ ys) i ≡ slice_get xs i
get_left [] ys i h = absurd (omega (arith, h))
get_left (x ∷ xs) ys zero h = refl
get_left (x ∷ xs) ys (suc i) h = get_left xs ys i (omega (arith, h))

pub replaced_at : {A : Type 0} (xs : List A) (low : ℕ) (ys : List A) (i : ℕ) → low + length ys ≤ length xs → i < length ys → slice_get (replaced xs low ys) (low + i) ≡ slice_get ys i
replaced_at xs low ys i h inside =
    from_seam xs low (ys ++ drop (low + length ys) xs) i (omega (arith, h)) ∙ get_left ys (drop (low + length ys) xs) i inside

pub replaced_above : {A : Type 0} (xs : List A) (low : ℕ) (ys : List A) (i : ℕ) → low + length ys ≤ length xs → low + length ys ≤ i → slice_get (replaced xs low ys) i ≡ slice_get xs i
replaced_above xs low ys i h above =
    let n : ℕ = length ys in
    let j : ℕ = i - (low + n) in
    let e : i ≡ low + (n + j) = omega arith in
    let f : (low + n) + j ≡ low + (n + j) = omega arith in
    ap (slice_get (replaced xs low ys)) e
    ∙ from_seam xs low (ys ++ drop (low + n) xs) (n + j) (omega (arith, h))
    ∙ get_append_right ys (drop (low + n) xs) j
    ∙ get_drop (low + n) xs j
    ∙ ap (slice_get xs) (f ∙ sym e)

pub replaced_all : {A : Type 0} (P : A → Type 0) (xs : List A) (low : ℕ) (ys : List A) → All P xs → All P ys → All P (replaced xs low ys)
replaced_all P xs low ys h k =
    All-append P (take low xs) (ys ++ drop (low + length ys) xs) (All-take P low xs h) (All-append P ys (drop (low + length ys) xs) k (All-drop P (low + length ys) xs h))

-- what stands at a place, whatever stands past the end
pub own_at : {A : Type 0} (xs : List A) (s : ℕ) (x d : A) → s < length xs → x ≡ slice_index_or xs s x → x ≡ slice_index_or xs s d
own_at [] s x d h e = absurd (omega (arith, h))
own_at (y ∷ xs) zero x d h e = e
own_at (y ∷ xs) (suc s) x d h e = own_at xs s x d (omega (arith, h)) e

-- one element more of a list that is gone through
one_more : {A : Type 0} (xs : List A) (i : ℕ) (x : A) → slice_get xs i ≡ Some x → take (suc i) xs ≡ take i xs ++ x ∷ []
one_more [] i x e = cc
one_more (y ∷ xs) zero x e = let same : y ≡ x = cc in ap (λ z. z ∷ []) same
one_more (y ∷ xs) (suc i) x e = ap (λ zs. y ∷ zs) (one_more xs i x e)

pub take_one_more : {A : Type 0} (xs : List A) (i : ℕ) (x : A) → i < length xs → x ≡ slice_index_or xs i x → take (i + 1) xs ≡ take i xs ++ x ∷ []
take_one_more xs i x h e = rw add-one (one_more xs i x (slice_get_read xs (length xs) i x refl h e))

-- what is read of a list is in it
pub has_read : {A : Type 0} (xs ys : List A) (i : ℕ) (x : A) → xs ≡ ys → i < length xs → x ≡ slice_index_or xs i x → Contains ys x
has_read xs ys i x same h e = subst (λ zs. Contains zs x) same (get_has xs i x (slice_get_read xs (length xs) i x refl h e))
