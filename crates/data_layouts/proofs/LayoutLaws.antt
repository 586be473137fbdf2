-- Where the fields of structures, unions and arrays lie.
use Rattle.std.proofs.Common.{◌<◌, slice_get, Some, ◌≡◌, ℕ, zero, suc, ◌+◌, ◌*◌, ◌≤◌, max, List, [], ◌∷◌, ◌++◌, map, fold, refl, ap, subst, ◌∙◌, arith}
use Rattle.std.specs.List.{range_with_len, AllByRecursion}
use Rattle.std.proofs.lemmas.List.Sums.{sum_by-cons}
use Rattle.shape_rules.specs.Forms.{Form}
use Rattle.data_layouts.specs.declared.field.Field.{Field}
use Rattle.data_layouts.specs.declared.field.Member.{Member}
use Rattle.data_layouts.specs.Layouts.{IsWithin, IsLaid, one_above, width_of, total, at_zero, widest, item_at}
use Rattle.data_layouts.specs.Laws.{Fills, members_of}

-- ---- structures

field_at : Member → ℕ → Field
field_at m low = record { name = m.name; low = low; shape = m.shape }

pub one_above-push : (low : ℕ) (ms : List Member) (m : Member) → one_above low (ms ++ m ∷ []) ≡ one_above low ms ++ record { name = m.name; low = low + total ms; shape = m.shape } ∷ []
unfolding field_at
one_above-push low [] m = ap (λ n. field_at m n ∷ []) (let e : low ≡ low + 0 = omega arith in e)
one_above-push low (x ∷ xs) m =
    ap (λ fs. field_at x low ∷ fs) (one_above-push (low + x.shape.width) xs m ∙ ap (λ n. one_above (low + x.shape.width) xs ++ field_at m n ∷ []) (let e : low + x.shape.width + total xs ≡ low + total (x ∷ xs) = omega (arith, sum_by-cons width_of x xs) in e))

Fills-one_above : (low : ℕ) (ms : List Member) → Fills low (one_above low ms) (low + total ms)
Fills-one_above low [] = omega arith
Fills-one_above low (m ∷ ms) =
    (refl, subst (λ n. Fills (low + m.shape.width) (one_above (low + m.shape.width) ms) n) (let e : low + m.shape.width + total ms ≡ low + total (m ∷ ms) = omega (arith, sum_by-cons width_of m ms) in e) (Fills-one_above (low + m.shape.width) ms))

pub filled_structure : (ms : List Member) → Fills 0 (one_above 0 ms) (total ms)
filled_structure ms = subst (λ high. Fills 0 (one_above 0 ms) high) (let e : 0 + total ms ≡ total ms = omega arith in e) (Fills-one_above 0 ms)

-- ---- what fills some bits lies within them

fills_up : (low high : ℕ) (fs : List Field) → Fills low fs high → low ≤ high
fills_up low high [] h = omega arith
fills_up low high (f ∷ fs) h = omega (arith, fills_up (low + f.shape.width) high fs h.1)

pub within_filled : (low high : ℕ) (fs : List Field) → Fills low fs high → AllByRecursion (IsWithin high) fs
within_filled low high [] h = tt
within_filled low high (f ∷ fs) h = (omega (arith, h.0, fills_up (low + f.shape.width) high fs h.1), within_filled (low + f.shape.width) high fs h.1)

-- ---- arrays

Fills-items : (item : Form) (a n : ℕ) → Fills (a * item.width) (map (item_at item) (range_with_len a n)) ((a + n) * item.width)
Fills-items item a zero = ap (λ k. k * item.width) (let e : a ≡ a + 0 = omega arith in e)
Fills-items item a (suc n) =
    (refl, subst (λ low. Fills low (map (item_at item) (range_with_len (a + 1) n)) ((a + suc n) * item.width)) (let e : (a + 1) * item.width ≡ a * item.width + item.width = omega arith in e) (subst (λ k. Fills ((a + 1) * item.width) (map (item_at item) (range_with_len (a + 1) n)) (k * item.width)) (let e : a + 1 + n ≡ a + suc n = omega arith in e) (Fills-items item (a + 1) n)))

pub filled_array : (item : Form) (count : ℕ) → Fills 0 (map (item_at item) (range_with_len 0 count)) (count * item.width)
filled_array item count =
    subst (λ low. Fills low (map (item_at item) (range_with_len 0 count)) (count * item.width)) (let e : 0 * item.width ≡ 0 = omega arith in e)
    (subst (λ n. Fills (0 * item.width) (map (item_at item) (range_with_len 0 count)) (n * item.width)) (let e : 0 + count ≡ count = omega arith in e) (Fills-items item 0 count))

item_behind : (item : Form) (a n i : ℕ) → i < n → slice_get (map (item_at item) (range_with_len a n)) i ≡ Some (item_at item (a + i))
item_behind item a zero i h = absurd (omega (arith, h))
item_behind item a (suc n) zero h = ap (λ k. Some (item_at item k)) (let e : a ≡ a + 0 = omega arith in e)
item_behind item a (suc n) (suc i) h = item_behind item (a + 1) n i (omega (arith, h)) ∙ ap (λ k. Some (item_at item k)) (let e : a + 1 + i ≡ a + suc i = omega arith in e)

pub item_in_place : (item : Form) (count i : ℕ) → i < count → slice_get (map (item_at item) (range_with_len 0 count)) i ≡ Some (item_at item i)
item_in_place item count i h = item_behind item 0 count i h ∙ ap (λ k. Some (item_at item k)) (let e : 0 + i ≡ i = omega arith in e)

-- ---- unions

fold_above : (bits : ℕ) (ms : List Member) → bits ≤ fold (λ b m. max b (width_of m)) bits ms
fold_above bits [] = omega arith
fold_above bits (m ∷ ms) = omega (arith, fold_above (max bits (width_of m)) ms)

within_from : (bits : ℕ) (ms : List Member) → AllByRecursion (IsWithin (fold (λ b m. max b (width_of m)) bits ms)) (map at_zero ms)
within_from bits [] = tt
within_from bits (m ∷ ms) = (omega (arith, fold_above (max bits (width_of m)) ms), within_from (max bits (width_of m)) ms)

pub within_widest : (ms : List Member) → AllByRecursion (IsWithin (widest ms)) (map at_zero ms)
within_widest ms = within_from 0 ms

-- ---- every field lies within the width

pub within_structure : (ms : List Member) → AllByRecursion (IsWithin (total ms)) (one_above 0 ms)
within_structure ms = within_filled 0 (total ms) (one_above 0 ms) (filled_structure ms)

pub within_array : (item : Form) (count : ℕ) → AllByRecursion (IsWithin (count * item.width)) (map (item_at item) (range_with_len 0 count))
within_array item count = within_filled 0 (count * item.width) (map (item_at item) (range_with_len 0 count)) (filled_array item count)

pub laid_structure : (ms : List Member) (fields : List Field) (width : ℕ) → fields ≡ one_above 0 ms → width ≡ total ms → width ≤ 128 → IsLaid (record { fields = fields; width = width })
laid_structure ms fields width f w most = record { most = most; within = rw (f, w) (within_structure ms) }

pub laid_union : (ms : List Member) (fields : List Field) (width : ℕ) → fields ≡ map at_zero ms → width ≡ widest ms → width ≤ 128 → IsLaid (record { fields = fields; width = width })
laid_union ms fields width f w most = record { most = most; within = rw (f, w) (within_widest ms) }

pub laid_array : (item : Form) (count : ℕ) (fields : List Field) (width : ℕ) → fields ≡ map (item_at item) (range_with_len 0 count) → width ≡ count * item.width → width ≤ 128 → IsLaid (record { fields = fields; width = width })
laid_array item count fields width f w most = record { most = most; within = rw (f, w) (within_array item count) }

-- ---- the members that fields were made of

pub kept_structure : (low : ℕ) (ms : List Member) → members_of (one_above low ms) ≡ ms
kept_structure low [] = refl
kept_structure low (m ∷ ms) = ap (λ xs. m ∷ xs) (kept_structure (low + m.shape.width) ms)

pub kept_union : (ms : List Member) → members_of (map at_zero ms) ≡ ms
kept_union [] = refl
kept_union (m ∷ ms) = ap (λ xs. m ∷ xs) (kept_union ms)
