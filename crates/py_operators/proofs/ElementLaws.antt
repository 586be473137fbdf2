-- The turns of the loops that list keys and numbers, and elements by their number.
use Rattle.std.proofs.Common.{◌≡◌, ℕ, zero, suc, ◌+◌, ◌-◌, ◌*◌, ◌/◌, ◌≤◌, ◌<◌, List, [], ◌∷◌, ◌++◌, length, drop, map, Some, None, refl, arith, ap, sym, ◌∙◌, append_assoc, append-nil}
use Rattle.std.specs.Prelude.{slice_get, slice_index_or, ℤ}
use Rattle.py_values.specs.declared.val.Val.{Val}
use Rattle.py_values.specs.declared.val.Val.TheVariants as val
use Rattle.py_values.specs.declared.range.Span.{Span}
use Rattle.py_operators.specs.Spans.{stepped, numbers_from}
use Rattle.py_operators.specs.Elements.{keys_in}

-- ---- keys

keys_turn_at : (row : List Val) (j : ℕ) (x : Val) → suc j < length row → x ≡ slice_index_or row j x → keys_in (drop j row) ≡ x ∷ keys_in (drop (suc (suc j)) row)
keys_turn_at [] j x l h = absurd (omega arith)
keys_turn_at (y ∷ []) j x l h = absurd (omega arith)
keys_turn_at (y ∷ v ∷ row) zero x l h = rw h refl
keys_turn_at (y ∷ v ∷ row) (suc j) x l h = keys_turn_at (v ∷ row) j x (omega arith) h

pub keys_turn : (row : List Val) (i : ℕ) (x : Val) → i < length row / 2 → x ≡ slice_index_or row (2 * i) x → keys_in (drop (2 * i) row) ≡ x ∷ keys_in (drop (2 * (i + 1)) row)
keys_turn row i x l h =
    let e : 2 * (i + 1) ≡ suc (suc (2 * i)) = omega arith in
    rw e (keys_turn_at row (2 * i) x (omega arith) h)

pub keys_end : (row : List Val) (j : ℕ) → length row ≤ suc j → keys_in (drop j row) ≡ []
keys_end [] zero l = refl
keys_end [] (suc j) l = refl
keys_end (y ∷ []) zero l = refl
keys_end (y ∷ v ∷ row) zero l = absurd (omega arith)
keys_end (y ∷ row) (suc j) l = keys_end row j (omega arith)

slice_get-keys_at : (row : List Val) (i : ℕ) (x : Val) → suc (2 * i) < length row → x ≡ slice_index_or row (2 * i) x → slice_get (keys_in row) i ≡ Some x
slice_get-keys_at [] i x l h = absurd (omega arith)
slice_get-keys_at (y ∷ []) i x l h = absurd (omega arith)
slice_get-keys_at (y ∷ v ∷ row) zero x l h = ap Some (sym h)
slice_get-keys_at (y ∷ v ∷ row) (suc i) x l h =
    let e : 2 * suc i ≡ suc (suc (2 * i)) = omega arith in
    slice_get-keys_at row i x (omega arith) (rw e at h)

pub slice_get-keys_in : (row : List Val) (i : ℕ) (x : Val) → i < length row / 2 → x ≡ slice_index_or row (2 * i) x → slice_get (keys_in row) i ≡ Some x
slice_get-keys_in row i x l h = slice_get-keys_at row i x (omega arith) h

pub length-keys_in : (row : List Val) → length (keys_in row) ≡ length row / 2
length-keys_in [] = refl
length-keys_in (x ∷ []) = refl
length-keys_in (x ∷ v ∷ row) = omega (arith, length-keys_in row)

pub slice_get_past : {A : Type 0} (xs : List A) (i : ℕ) → length xs ≤ i → slice_get xs i ≡ None
slice_get_past [] i l = refl
slice_get_past (x ∷ xs) zero l = absurd (omega arith)
slice_get_past (x ∷ xs) (suc i) l = slice_get_past xs i (omega arith)

pub keys_past : (row : List Val) (i : ℕ) → length row / 2 ≤ i → slice_get (keys_in row) i ≡ None
keys_past row i l = slice_get_past (keys_in row) i (omega (arith, length-keys_in row))

-- ---- numbers

pub numbers_turn : (count i : ℕ) (r : Span) → i < count → numbers_from (count - i) i r ≡ stepped r.start r.step i ∷ numbers_from (count - (i + 1)) (i + 1) r
unfolding numbers_from
numbers_turn count i r l =
    let e : count - i ≡ suc (count - (i + 1)) = omega arith in
    rw e refl

pub numbers_end : (count i : ℕ) (r : Span) → count ≤ i → numbers_from (count - i) i r ≡ []
unfolding numbers_from
numbers_end count i r l =
    let e : count - i ≡ zero = omega arith in
    rw e refl

pub length-numbers_from : (n i : ℕ) (r : Span) → length (numbers_from n i r) ≡ n
unfolding numbers_from
length-numbers_from zero i r = refl
length-numbers_from (suc n) i r = omega (arith, length-numbers_from n (i + 1) r)

pub slice_get-numbers_from : (n i j : ℕ) (r : Span) → j < n → slice_get (numbers_from n i r) j ≡ Some (stepped r.start r.step (i + j))
unfolding numbers_from
slice_get-numbers_from zero i j r l = absurd (omega arith)
slice_get-numbers_from (suc n) i zero r l =
    let e : i + zero ≡ i = omega arith in
    rw e refl
slice_get-numbers_from (suc n) i (suc j) r l =
    let e : i + suc j ≡ (i + 1) + j = omega arith in
    slice_get-numbers_from n (i + 1) j r (omega arith) ∙ rw e refl

-- ---- numbers as values, listed one by one

pub values_start : (all : List Val) (count : ℕ) (r : Span) → all ≡ [] → all ++ map val.Int (numbers_from (count - 0) 0 r) ≡ map val.Int (numbers_from count 0 r)
values_start all count r h =
    let e : count - 0 ≡ count = omega arith in
    rw (h, e) refl

pub values_turn : (all new whole : List Val) (count i : ℕ) (r : Span) (n : ℤ) → i < count → n ≡ stepped r.start r.step i → new ≡ all ++ val.Int n ∷ [] → all ++ map val.Int (numbers_from (count - i) i r) ≡ whole → new ++ map val.Int (numbers_from (count - (i + 1)) (i + 1) r) ≡ whole
values_turn all new whole count i r n l e g h =
    rw (g, e) (append_assoc all (val.Int (stepped r.start r.step i) ∷ []) (map val.Int (numbers_from (count - (i + 1)) (i + 1) r)) ∙ ap (λ xs. all ++ map val.Int xs) (sym (numbers_turn count i r l)) ∙ h)

pub values_end : (all whole : List Val) (count i : ℕ) (r : Span) → count ≤ i → all ++ map val.Int (numbers_from (count - i) i r) ≡ whole → whole ≡ all
values_end all whole count i r l h = sym h ∙ ap (λ xs. all ++ map val.Int xs) (numbers_end count i r l) ∙ append-nil all

-- ---- keys, listed one by one

pub listed_turn : (all new whole row : List Val) (i : ℕ) (x : Val) → i < length row / 2 → x ≡ slice_index_or row (2 * i) x → new ≡ all ++ x ∷ [] → all ++ keys_in (drop (2 * i) row) ≡ whole → new ++ keys_in (drop (2 * (i + 1)) row) ≡ whole
listed_turn all new whole row i x l e g h =
    rw g (append_assoc all (x ∷ []) (keys_in (drop (2 * (i + 1)) row)) ∙ ap (λ xs. all ++ xs) (sym (keys_turn row i x l e)) ∙ h)

pub listed_end : (all whole row : List Val) (i : ℕ) → length row / 2 ≤ i → all ++ keys_in (drop (2 * i) row) ≡ whole → whole ≡ all
listed_end all whole row i l h = sym h ∙ ap (λ xs. all ++ xs) (keys_end row (2 * i) (omega arith)) ∙ append-nil all
