-- The turns of the loops that look for a part, an element or a key.
use Rattle.std.proofs.Common.{◌≡◌, ℕ, zero, suc, ◌+◌, ◌-◌, ◌*◌, ◌≤◌, ◌<◌, Bool, true, false, cond, List, [], ◌∷◌, length, drop, Option, Some, None, refl, arith, ap, sym, ◌∙◌, add-one}
use Rattle.std.specs.Prelude.{nat_eq, slice_index_or, ◌||◌}
use Rattle.std.specs.List.{starts_with}
use Rattle.py_values.specs.declared.val.Val.{Val}
use Rattle.py_values.specs.Runs.{Run, later, after, give}
use Rattle.py_heap.specs.Members.{has_part, any_equal, value_place}

pub part_here : (part xs : List ℕ) → starts_with nat_eq xs part ≡ true → has_part part xs ≡ true
part_here part [] h = h
part_here part (x ∷ xs) h = rw h refl

part_turn_suc : (part xs : List ℕ) (i : ℕ) → i < length xs → starts_with nat_eq (drop i xs) part ≡ false → has_part part (drop i xs) ≡ has_part part (drop (suc i) xs)
part_turn_suc part [] i l h = absurd (omega arith)
part_turn_suc part (x ∷ xs) zero l h = rw h refl
part_turn_suc part (x ∷ xs) (suc i) l h = part_turn_suc part xs i (omega arith) h

pub part_turn : (part xs : List ℕ) (i : ℕ) → i < length xs → starts_with nat_eq (drop i xs) part ≡ false → has_part part (drop i xs) ≡ has_part part (drop (i + 1) xs)
part_turn part xs i l h = rw add-one (part_turn_suc part xs i l h)

pub part_end : (part xs : List ℕ) (i : ℕ) → length xs ≤ i → has_part part (drop i xs) ≡ starts_with nat_eq (drop i xs) part
part_end part [] zero l = refl
part_end part [] (suc i) l = refl
part_end part (x ∷ xs) zero l = absurd (omega arith)
part_end part (x ∷ xs) (suc i) l = part_end part xs i (omega arith)

any_turn_suc : (same : Val → Val → Run Bool) (a : Val) (xs : List Val) (i : ℕ) (x : Val) → i < length xs → x ≡ slice_index_or xs i x → any_equal same a (drop i xs) ≡ after (later 1 (same a x)) (λ e. cond e (give true) (any_equal same a (drop (suc i) xs)))
any_turn_suc same a [] i x l h = absurd (omega arith)
any_turn_suc same a (y ∷ xs) zero x l h = rw h refl
any_turn_suc same a (y ∷ xs) (suc i) x l h = any_turn_suc same a xs i x (omega arith) h

pub any_turn : (same : Val → Val → Run Bool) (a : Val) (xs : List Val) (i : ℕ) (x : Val) → i < length xs → x ≡ slice_index_or xs i x → any_equal same a (drop i xs) ≡ after (later 1 (same a x)) (λ e. cond e (give true) (any_equal same a (drop (i + 1) xs)))
any_turn same a xs i x l h = rw add-one (any_turn_suc same a xs i x l h)

pub any_end : (same : Val → Val → Run Bool) (a : Val) (xs : List Val) (i : ℕ) → length xs ≤ i → any_equal same a (drop i xs) ≡ give false
any_end same a [] zero l = refl
any_end same a [] (suc i) l = refl
any_end same a (x ∷ xs) zero l = absurd (omega arith)
any_end same a (x ∷ xs) (suc i) l = any_end same a xs i (omega arith)

pair_turn : (p : Val → Bool) (n : ℕ) (row : List Val) (j : ℕ) (x : Val) → suc j < length row → x ≡ slice_index_or row j x → value_place p n (drop j row) ≡ cond (p x) (Some (suc n)) (value_place p (n + 2) (drop (suc (suc j)) row))
pair_turn p n [] j x l h = absurd (omega arith)
pair_turn p n (y ∷ []) j x l h = absurd (omega arith)
pair_turn p n (y ∷ v ∷ row) zero x l h = rw h refl
pair_turn p n (y ∷ v ∷ row) (suc j) x l h = pair_turn p n (v ∷ row) j x (omega arith) h

pub place_turn : (p : Val → Bool) (row : List Val) (i : ℕ) (x : Val) → 2 * i + 1 < length row → x ≡ slice_index_or row (2 * i) x → value_place p (2 * i) (drop (2 * i) row) ≡ cond (p x) (Some (2 * i + 1)) (value_place p (2 * (i + 1)) (drop (2 * (i + 1)) row))
place_turn p row i x l h =
    let e : 2 * (i + 1) ≡ suc (suc (2 * i)) = omega arith in
    let d : 2 * i + 2 ≡ suc (suc (2 * i)) = omega arith in
    rw (e, add-one) (pair_turn p (2 * i) row (2 * i) x (omega arith) h ∙ rw d refl)

pub place_more : (p : Val → Bool) (row : List Val) (i : ℕ) (x : Val) → 2 * i + 1 < length row → x ≡ slice_index_or row (2 * i) x → p x ≡ false → value_place p (2 * i) (drop (2 * i) row) ≡ value_place p (2 * (i + 1)) (drop (2 * (i + 1)) row)
place_more p row i x l h e = place_turn p row i x l h ∙ rw e refl

pub place_end : (p : Val → Bool) (n : ℕ) (row : List Val) (j : ℕ) → length row ≤ suc j → value_place p n (drop j row) ≡ None
place_end p n [] zero l = refl
place_end p n [] (suc j) l = refl
place_end p n (y ∷ []) zero l = refl
place_end p n (y ∷ v ∷ row) zero l = absurd (omega arith)
place_end p n (y ∷ row) (suc j) l = place_end p n row j (omega arith)
