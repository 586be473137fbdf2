-- Codes of keys, and where they stand in a row.
use Rattle.std.proofs.Common.{◌≡◌, ℕ, zero, suc, ◌+◌, ◌*◌, ◌≤◌, ◌⊎◌, inl, inr, Bool, true, false, cond, subst, true≢false, ◌≢◌, ◌/◌, ◌%◌, List, [], ◌∷◌, ◌++◌, length, drop, Option, Some, None, Result, Ok, Err, OnOk, OnErr, refl, ap, sym, ◌∙◌, arith, nat_eq}
use Rattle.std.proofs.lemmas.Bool.{eqb-true, eq-eqb}
use Rattle.std.proofs.lemmas.Bool.Decides.{eqb_tells, Decides-int_eq}
use Rattle.std.proofs.lemmas.Iterator.Adapters.{position_from-zero}
use Rattle.std.specs.List.{position_from}
use Rattle.std.specs.Ordering.{int_eq}
use Rattle.std.specs.Prelude.{ℤ, pos, negsuc}
use Rattle.py_values.specs.declared.val.Hw.{Hw}
use Rattle.py_values.specs.declared.val.Val.TheVariants as val
use Rattle.py_heap.specs.declared.codes.Code.TheVariants.{Thing}
use Rattle.py_heap.specs.declared.equality.Pair.TheVariants.{Known, Refused}
use Rattle.py_heap.specs.Heaps.{Seen}
use Rattle.py_values.specs.Numbers.{bit_number}
use Rattle.py_heap.specs.Equality.{beside_number, beside_thing}
use Rattle.std.specs.Prelude.{position, slice_set, ◌&&◌}
use Rattle.lists.specs.declared.items.NoMemory.{NoMemory}
use Rattle.py_values.specs.declared.val.Val.{Val}
use Rattle.py_heap.specs.declared.codes.Code.{Code}
use Rattle.py_heap.specs.Keys.{code_of, same_code, has_code, is_code, AreCoded, AddsAtMost, code_behind, codes_after, number_code}
use Rattle.py_heap.specs.Members.{value_place, agrees, same_key}

-- more items behind a row change no code of its first keys
pub coded_more : (cs : List Code) (row more : List Val) → AreCoded cs row → AreCoded cs (row ++ more)
coded_more [] row more h = tt
coded_more (c ∷ cs) [] more h = absurd h
coded_more (c ∷ cs) (k ∷ []) more h = absurd h
coded_more (c ∷ cs) (k ∷ v ∷ row) more h = (h.0, coded_more cs row more h.1)

-- the same, where there may be no memory for them
pub coded_either : (cs : List Code) (row more new : List Val) (r : Result (Unit {0}) NoMemory) → AreCoded cs row → OnOk r (new ≡ row ++ more) → OnErr r (new ≡ row) → AreCoded cs new
coded_either cs row more new (Ok x) h e f = subst (AreCoded cs) (sym e) (coded_more cs row more h)
coded_either cs row more new (Err x) h e f = subst (AreCoded cs) (sym f) h

-- one key more, where all before it have codes
pub coded_next : (cs : List Code) (row : List Val) (c : Code) (k v : Val) → AreCoded cs row → length row ≡ 2 * length cs → code_of k ≡ Some c → AreCoded (cs ++ c ∷ []) (row ++ k ∷ v ∷ [])
coded_next [] [] c k v h l e = (e, tt)
coded_next [] (x ∷ row) c k v h l e = absurd (omega arith)
coded_next (d ∷ cs) [] c k v h l e = absurd h
coded_next (d ∷ cs) (x ∷ []) c k v h l e = absurd h
coded_next (d ∷ cs) (x ∷ y ∷ row) c k v h l e = (h.0, coded_next cs row c k v h.1 (omega arith) e)

-- so many pairs stand in the row
pub coded_within : (cs : List Code) (row : List Val) → AreCoded cs row → 2 * length cs ≤ length row
coded_within [] row h = omega arith
coded_within (c ∷ cs) [] h = absurd h
coded_within (c ∷ cs) (k ∷ []) h = absurd h
coded_within (c ∷ cs) (k ∷ v ∷ row) h = let i : 2 * length cs ≤ length row = coded_within cs row h.1 in omega arith

-- ---- a key more, with its code where it has one

coded_added : (cs cs' : List Code) (row : List Val) (code : Option Code) (k v : Val) → AreCoded cs row → length row ≡ 2 * length cs → code_of k ≡ code → AddsAtMost code cs cs' → AreCoded cs' (row ++ k ∷ v ∷ [])
coded_added cs cs' row None k v h l e a = subst (λ ds. AreCoded ds (row ++ k ∷ v ∷ [])) (sym a) (coded_more cs row (k ∷ v ∷ []) h)
coded_added cs cs' row (Some c) k v h l e (inl a) = subst (λ ds. AreCoded ds (row ++ k ∷ v ∷ [])) (sym a) (coded_more cs row (k ∷ v ∷ []) h)
coded_added cs cs' row (Some c) k v h l e (inr a) = subst (λ ds. AreCoded ds (row ++ k ∷ v ∷ [])) (sym a) (coded_next cs row c k v h l e)

coded_by : (whole : Bool) (cs cs' : List Code) (row : List Val) (k v : Val) → (whole ≡ true → length row ≡ 2 * length cs) → AreCoded cs row → AddsAtMost (cond whole (code_of k) None) cs cs' → AreCoded cs' (row ++ k ∷ v ∷ [])
coded_by false cs cs' row k v l h a = subst (λ ds. AreCoded ds (row ++ k ∷ v ∷ [])) (sym a) (coded_more cs row (k ∷ v ∷ []) h)
coded_by true cs cs' row k v l h a = coded_added cs cs' row (code_of k) k v h (l refl) refl a

whole_and : (a b : Bool) → a && b ≡ true → (a ≡ true) × (b ≡ true)
whole_and true true e = (refl, refl)
whole_and true false e = (refl, e)
whole_and false b e = (e, absurd (true≢false (sym e)))

whole_pairs : (cs : List Code) (row : List Val) → nat_eq (length row / 2) (length cs) && nat_eq (length row % 2) 0 ≡ true → length row ≡ 2 * length cs
whole_pairs cs row e =
    let t : (nat_eq (length row / 2) (length cs) ≡ true) × (nat_eq (length row % 2) 0 ≡ true) = whole_and (nat_eq (length row / 2) (length cs)) (nat_eq (length row % 2) 0) e in
    let p : length row / 2 ≡ length cs = eqb-true (length row / 2) (length cs) t.0 in
    let q : length row % 2 ≡ 0 = eqb-true (length row % 2) 0 t.1 in
    omega arith

pub coded_pushed : (cs cs' : List Code) (row : List Val) (k v : Val) → AreCoded cs row → AddsAtMost (code_behind cs row k) cs cs' → AreCoded cs' (row ++ k ∷ v ∷ [])
coded_pushed cs cs' row k v h a = coded_by (nat_eq (length row / 2) (length cs) && nat_eq (length row % 2) 0) cs cs' row k v (λ e. whole_pairs cs row e) h a

-- ---- keys that have codes are equal where their codes are

same_tests : (a b : Bool) → (a ≡ true → b ≡ true) → (b ≡ true → a ≡ true) → a ≡ b
same_tests true true f g = refl
same_tests true false f g = sym (f refl)
same_tests false true f g = g refl
same_tests false false f g = refl

one_code : (n : ℤ) → same_code (number_code n) (number_code n) ≡ true
one_code (pos n) = eq-eqb n n refl
one_code (negsuc n) = eq-eqb (suc n) (suc n) refl

code_number : (m n : ℤ) → same_code (number_code m) (number_code n) ≡ true → m ≡ n
code_number (pos m) (pos n) e = ap pos (eqb-true m n e)
code_number (pos m) (negsuc n) e = absurd (true≢false (sym e))
code_number (negsuc m) (pos n) e = absurd (true≢false (sym e))
code_number (negsuc m) (negsuc n) e =
    let s : suc m ≡ suc n = eqb-true (suc m) (suc n) e in
    let t : m ≡ n = omega arith in
    ap negsuc t

codes_equal : (m n : ℤ) → int_eq m n ≡ same_code (number_code m) (number_code n)
codes_equal m n = same_tests (int_eq m n) (same_code (number_code m) (number_code n)) (λ e. rw ((Decides-int_eq m n).0 e) (one_code n)) (λ e. (Decides-int_eq m n).1 (code_number m n e))

number_coded : (s : Seen) (m : ℤ) (b : Val) → agrees s (beside_number m b) ≡ has_code (number_code m) b
number_coded s m val.None = refl
number_coded s m (val.Bool x) = codes_equal m (bit_number x)
number_coded s m (val.Int n) = codes_equal m n
number_coded s m (val.Str x) = refl
number_coded s m (val.Time x) = refl
number_coded s m (val.List x) = refl
number_coded s m (val.Tuple x) = refl
number_coded s m (val.Dict x) = refl
number_coded s m (val.Range x) = refl
number_coded s m (val.Func x) = refl
number_coded s m (val.Class x) = refl
number_coded s m (val.Object x) = refl
number_coded s m (val.Hw x) = refl

known_or : (s : Seen) (b : Bool) → agrees s (cond b (Known true) Refused) ≡ b
known_or s true = refl
known_or s false = refl

thing_coded : (s : Seen) (x : Hw) (b : Val) → agrees s (beside_thing x b) ≡ has_code (Thing x.0) b
thing_coded s x val.None = refl
thing_coded s x (val.Bool y) = refl
thing_coded s x (val.Int n) = refl
thing_coded s x (val.Str y) = refl
thing_coded s x (val.Time y) = refl
thing_coded s x (val.List y) = refl
thing_coded s x (val.Tuple y) = refl
thing_coded s x (val.Dict y) = refl
thing_coded s x (val.Range y) = refl
thing_coded s x (val.Func y) = refl
thing_coded s x (val.Class y) = refl
thing_coded s x (val.Object y) = refl
thing_coded s x (val.Hw y) = known_or s (nat_eq x.0 y.0)

abbrev pub CodedAs : Seen → Val → Val → Option Code → Type 0
CodedAs s k b None = Unit {0}
CodedAs s k b (Some c) = same_key s k b ≡ has_code c b

pub key_coded : (s : Seen) (k b : Val) → CodedAs s k b (code_of k)
key_coded s val.None b = tt
key_coded s (val.Bool x) b = number_coded s (bit_number x) b
key_coded s (val.Int n) b = number_coded s n b
key_coded s (val.Str x) b = tt
key_coded s (val.Time x) b = tt
key_coded s (val.List x) b = tt
key_coded s (val.Tuple x) b = tt
key_coded s (val.Dict x) b = tt
key_coded s (val.Range x) b = tt
key_coded s (val.Func x) b = tt
key_coded s (val.Class x) b = tt
key_coded s (val.Object x) b = tt
key_coded s (val.Hw x) b = thing_coded s x b

place_same : (p q : Val → Bool) → ((x : Val) → p x ≡ q x) → (row : List Val) (i : ℕ) → value_place p i row ≡ value_place q i row
place_same p q h [] i = refl
place_same p q h (x ∷ []) i = refl
place_same p q h (x ∷ v ∷ row) i = (λ j. cond (h x j) (Some (suc i)) (place_same p q h row (i + 2) j))

-- a key of this code is found by its code
pub place_by_code : (s : Seen) (k : Val) (c : Code) (row : List Val) → Some c ≡ code_of k → value_place (has_code c) 0 row ≡ value_place (same_key s k) 0 row
place_by_code s k c row e = place_same (has_code c) (same_key s k) (λ x. sym (subst (CodedAs s k x) (sym e) (key_coded s k x))) row 0

-- ---- another value at a place

set_value : (cs : List Code) (row : List Val) (i : ℕ) (v : Val) → AreCoded cs row → i % 2 ≡ 1 → AreCoded cs (slice_set row i v)
set_value [] row i v h o = tt
set_value (c ∷ cs) [] i v h o = absurd h
set_value (c ∷ cs) (k ∷ []) i v h o = absurd h
set_value (c ∷ cs) (k ∷ w ∷ row) zero v h o = absurd (omega arith)
set_value (c ∷ cs) (k ∷ w ∷ row) (suc zero) v h o = h
set_value (c ∷ cs) (k ∷ w ∷ row) (suc (suc i)) v h o = (h.0, set_value cs row i v h.1 (omega arith))

set_by : (b : Bool) (cs : List Code) (row : List Val) (i : ℕ) (v : Val) → (b ≡ false → i % 2 ≡ 1) → AreCoded cs row → AreCoded (cond b [] cs) (slice_set row i v)
set_by true cs row i v o h = tt
set_by false cs row i v o h = set_value cs row i v h (o refl)

odd_by : (i : ℕ) → nat_eq (i % 2) 0 ≡ false → ((nat_eq (i % 2) 0 ≡ true) × (i % 2 ≡ 0)) ⊎ ((nat_eq (i % 2) 0 ≡ false) × (i % 2 ≢ 0)) → i % 2 ≡ 1
odd_by i e (inl t) = absurd (true≢false (sym t.0 ∙ e))
odd_by i e (inr t) = let n : i % 2 ≢ 0 = t.1 in omega arith

odd_place : (i : ℕ) → nat_eq (i % 2) 0 ≡ false → i % 2 ≡ 1
odd_place i e = odd_by i e (eqb_tells (i % 2) 0)

pub coded_set : (cs : List Code) (row : List Val) (i : ℕ) (v : Val) → AreCoded cs row → AreCoded (codes_after i cs) (slice_set row i v)
coded_set cs row i v h = set_by (nat_eq (i % 2) 0) cs row i v (odd_place i) h

-- ---- where a code stands

-- the place of the value of a key by the number of its pair, or else another place
abbrev pub pair_or : Option ℕ → Option ℕ → Option ℕ
pair_or None rest = rest
pair_or (Some i) rest = Some (2 * i + 1)

pair_step : (b : Bool) (n : ℕ) (x i rest : Option ℕ) → x ≡ pair_or i rest → cond b (Some (suc (2 * n))) x ≡ pair_or (cond b (Some n) i) rest
pair_step true n x i rest e = let d : suc (2 * n) ≡ 2 * n + 1 = omega arith in ap Some d
pair_step false n x i rest e = e

place_from : (p : Val → Bool) (test : Code → Bool) → ((k : Val) (d : Code) → code_of k ≡ Some d → p k ≡ test d) → (cs : List Code) (row : List Val) (n : ℕ) → AreCoded cs row → value_place p (2 * n) row ≡ pair_or (position_from test n cs) (value_place p (2 * (n + length cs)) (drop (2 * length cs) row))
place_from p test h [] row n a = let e : n + 0 ≡ n = omega arith in rw e refl
place_from p test h (c ∷ cs) [] n a = absurd a
place_from p test h (c ∷ cs) (k ∷ []) n a = absurd a
place_from p test h (c ∷ cs) (k ∷ v ∷ row) n a =
    let e : 2 * n + 2 ≡ 2 * (n + 1) = omega arith in
    let d : 2 * (n + suc (length cs)) ≡ 2 * (n + 1 + length cs) = omega arith in
    let f : 2 * suc (length cs) ≡ suc (suc (2 * length cs)) = omega arith in
    let x : value_place p (2 * n + 2) row ≡ pair_or (position_from test (n + 1) cs) (value_place p (2 * (n + suc (length cs))) (drop (2 * suc (length cs)) (k ∷ v ∷ row))) = rw (e, d, f) (place_from p test h cs row (n + 1) a.1) in
    ap (λ b. cond b (Some (suc (2 * n))) (value_place p (2 * n + 2) row)) (h k c a.0) ∙ pair_step (test c) n (value_place p (2 * n + 2) row) (position_from test (n + 1) cs) (value_place p (2 * (n + suc (length cs))) (drop (2 * suc (length cs)) (k ∷ v ∷ row))) x

-- the first key of a code is where the code stands, or behind all that have codes
pub place_coded : (p : Val → Bool) (test : Code → Bool) → ((k : Val) (d : Code) → code_of k ≡ Some d → p k ≡ test d) → (cs : List Code) (row : List Val) → AreCoded cs row → value_place p 0 row ≡ pair_or (position test cs) (value_place p (2 * length cs) (drop (2 * length cs) row))
place_coded p test h cs row a =
    let z : 0 + length cs ≡ length cs = omega arith in
    let g : value_place p (2 * (0 + length cs)) (drop (2 * length cs) row) ≡ value_place p (2 * length cs) (drop (2 * length cs) row) = rw z refl in
    rw (position_from-zero test cs) (place_from p test h cs row 0 a ∙ ap (pair_or (position_from test 0 cs)) g)

pub coded_test : (c : Code) (test : Code → Bool) → ((d : Code) → same_code c d ≡ test d) → (k : Val) (d : Code) → code_of k ≡ Some d → has_code c k ≡ test d
coded_test c test h k d e = ap (is_code c) e ∙ h d
