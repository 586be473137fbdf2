-- The turns of the loops over keys and values, two items at a time.
use Rattle.std.proofs.Common.{◌≡◌, ℕ, zero, suc, ◌+◌, ◌*◌, ◌<◌, ◌≤◌, ◌⊎◌, inl, inr, Bool, true, false, List, [], ◌∷◌, ◌++◌, length, drop, Option, Some, None, Result, Ok, Err, refl, ap, sym, ◌∙◌, subst, arith, append_assoc, add-one}
use Rattle.std.specs.Prelude.{slice_index_or}
use Rattle.py_values.specs.declared.val.Val.{Val}
use Rattle.std.proofs.lemmas.List.{append-nil}
use Rattle.py_values.specs.declared.val.ValueStop.{ValueStop}
use Rattle.py_values.specs.declared.val.ValueStop.TheVariants.{Raised, Width, Limit, Spent, NoMemory}
use Rattle.py_heap.specs.declared.fresh.Fresh.TheVariants as fresh
use Rattle.py_heap.specs.Heaps.{Made, Seen, seen}
use Rattle.py_values.specs.Runs.{Answers, given}
use Rattle.py_heap.specs.Places.{placed}
use Rattle.py_heap.specs.Members.{is_key}
use Rattle.py_heap.specs.Dicts.{all_keys, key_row, value_row, put, put_all, followed, tupled, two_of, pair_row, pair_before, unpaired}

key_suc : (row : List Val) (j : ℕ) (k : Val) → suc j < length row → k ≡ slice_index_or row j k → (v : Val) × (drop j row ≡ k ∷ v ∷ drop (suc (suc j)) row)
key_suc [] j k l h = absurd (omega arith)
key_suc (x ∷ []) j k l h = absurd (omega arith)
key_suc (x ∷ y ∷ row) zero k l h = (y, rw h refl)
key_suc (x ∷ y ∷ row) (suc j) k l h = key_suc (y ∷ row) j k (omega arith) h

-- what stands from a key on
pub drop_key : (row : List Val) (i : ℕ) (k : Val) → 2 * i + 1 < length row → k ≡ slice_index_or row (2 * i) k → (v : Val) × (drop (2 * i) row ≡ k ∷ v ∷ drop (2 * (i + 1)) row)
drop_key row i k l h =
    let e : 2 * (i + 1) ≡ suc (suc (2 * i)) = omega arith in
    rw e (key_suc row (2 * i) k (omega arith) h)

pair_suc : (row : List Val) (j : ℕ) (k v : Val) → suc j < length row → k ≡ slice_index_or row j k → v ≡ slice_index_or row (suc j) v → drop j row ≡ k ∷ v ∷ drop (suc (suc j)) row
pair_suc [] j k v l h g = absurd (omega arith)
pair_suc (x ∷ []) j k v l h g = absurd (omega arith)
pair_suc (x ∷ y ∷ row) zero k v l h g = rw (h, g) refl
pair_suc (x ∷ y ∷ row) (suc j) k v l h g = pair_suc (y ∷ row) j k v (omega arith) h g

pub drop_pair : (row : List Val) (i : ℕ) (k v : Val) → 2 * i + 1 < length row → k ≡ slice_index_or row (2 * i) k → v ≡ slice_index_or row (2 * i + 1) v → drop (2 * i) row ≡ k ∷ v ∷ drop (2 * (i + 1)) row
drop_pair row i k v l h g =
    let e : 2 * (i + 1) ≡ suc (suc (2 * i)) = omega arith in
    let d : 2 * i + 1 ≡ suc (2 * i) = omega arith in
    rw e (pair_suc row (2 * i) k v (omega arith) h (rw d at g))

value_suc : (row : List Val) (j : ℕ) (v : Val) → suc j < length row → v ≡ slice_index_or row (suc j) v → (k : Val) × (drop j row ≡ k ∷ v ∷ drop (suc (suc j)) row)
value_suc [] j v l g = absurd (omega arith)
value_suc (x ∷ []) j v l g = absurd (omega arith)
value_suc (x ∷ y ∷ row) zero v l g = (x, rw g refl)
value_suc (x ∷ y ∷ row) (suc j) v l g = value_suc (y ∷ row) j v (omega arith) g

-- what stands from a value's key on
pub drop_value : (row : List Val) (i : ℕ) (v : Val) → 2 * i + 1 < length row → v ≡ slice_index_or row (2 * i + 1) v → (k : Val) × (drop (2 * i) row ≡ k ∷ v ∷ drop (2 * (i + 1)) row)
drop_value row i v l g =
    let e : 2 * (i + 1) ≡ suc (suc (2 * i)) = omega arith in
    let d : 2 * i + 1 ≡ suc (2 * i) = omega arith in
    rw e (value_suc row (2 * i) v (omega arith) (rw d at g))

-- behind the last pair stands one item at most
pub at_end : {A : Type 0} (f : List Val → A) (a : A) → f [] ≡ a → ((x : Val) → f (x ∷ []) ≡ a) → (row : List Val) (j : ℕ) → length row ≤ suc j → f (drop j row) ≡ a
at_end f a e g [] zero l = e
at_end f a e g [] (suc j) l = e
at_end f a e g (x ∷ []) zero l = g x
at_end f a e g (x ∷ y ∷ row) zero l = absurd (omega arith)
at_end f a e g (x ∷ row) (suc j) l = at_end f a e g row j (omega arith)

-- pairs behind others, where there are some
abbrev pub behind : List Val → Option (List Val) → Option (List Val)
behind all None = None
behind all (Some rest) = Some (all ++ rest)

behind_by : (all : List Val) (k v : Val) (rest : Option (List Val)) → behind all (pair_before (Some (k, v)) rest) ≡ behind (all ++ k ∷ v ∷ []) rest
behind_by all k v None = refl
behind_by all k v (Some rest) = ap Some (sym (append_assoc all (k ∷ v ∷ []) rest))

pub behind_turn : (s : Seen) (all : List Val) (p k v : Val) (ps : List Val) → Some (k, v) ≡ two_of (pair_row s p) → behind all (unpaired s (p ∷ ps)) ≡ behind (all ++ k ∷ v ∷ []) (unpaired s ps)
behind_turn s all p k v ps h = rw (← h) (behind_by all k v (unpaired s ps))

pub behind_stop : (s : Seen) (all : List Val) (p : Val) (ps : List Val) → None ≡ two_of (pair_row s p) → behind all (unpaired s (p ∷ ps)) ≡ None
behind_stop s all p ps h = rw (← h) refl

-- one item more
pub one_more : (all all' : List Val) (x : Val) (rest whole : List Val) → all' ≡ all ++ x ∷ [] → all ++ x ∷ rest ≡ whole → all' ++ rest ≡ whole
one_more all all' x rest whole e h = ap (λ r. r ++ rest) e ∙ append_assoc all (x ∷ []) rest ∙ h

-- none more
pub no_more : (all rest whole : List Val) → rest ≡ [] → all ++ rest ≡ whole → whole ≡ all
no_more all rest whole e h = sym h ∙ ap (λ r. all ++ r) e ∙ append-nil all

abbrev left_of : {A : Type 0} → A → Result (Unit {0} × A) ValueStop → A
left_of d (Ok x) = x.1
left_of d (Err stop) = d

-- at one key more
pub put_turn : (s : Seen) (row row' : List Val) (k v : Val) (more : List Val) → Answers {A = Unit {0} × List Val} (Ok (tt, row')) (Ok (tt, put s row k v)) → put_all s row (k ∷ v ∷ more) ≡ put_all s row' more
put_turn s row row' k v more h = ap (λ r. put_all s r more) (ap (left_of row') h)

pub put_end : (s : Seen) (row pairs : List Val) (j : ℕ) → length pairs ≤ suc j → put_all s row (drop j pairs) ≡ row
put_end s row pairs j l = at_end (put_all s row) row refl (λ x. refl) pairs j l

-- at one tuple more
pub tuple_turn : (frozen own : Made) (all all' row : List Val) (k v t : Val) (made : Made) → placed (seen frozen own) (fresh.Tuple (k ∷ v ∷ [])) ≡ Ok (t, made) → all' ≡ all ++ t ∷ [] → tupled frozen own all (k ∷ v ∷ row) ≡ tupled frozen made all' row
unfolding tupled
tuple_turn frozen own all all' row k v t made h e = ap (λ r. followed r (λ x m. tupled frozen m (all ++ x ∷ []) row)) h ∙ ap (λ a. tupled frozen made a row) (sym e)

pub tuple_stop : (frozen own : Made) (all row : List Val) (k v : Val) (stop : ValueStop) → Answers (Err stop) (placed (seen frozen own) (fresh.Tuple (k ∷ v ∷ []))) → Answers (Err stop) (tupled frozen own all (k ∷ v ∷ row))
unfolding tupled
tuple_stop frozen own all row k v Raised h = ap (λ r. followed r (λ x m. tupled frozen m (all ++ x ∷ []) row)) h
tuple_stop frozen own all row k v Width h = ap (λ r. followed r (λ x m. tupled frozen m (all ++ x ∷ []) row)) h
tuple_stop frozen own all row k v Limit h = ap (λ r. followed r (λ x m. tupled frozen m (all ++ x ∷ []) row)) h
tuple_stop frozen own all row k v Spent h = absurd h
tuple_stop frozen own all row k v NoMemory h = tt

pub tuple_end : (frozen own : Made) (all row : List Val) (j : ℕ) → length row ≤ suc j → tupled frozen own all (drop j row) ≡ Ok (all, own)
unfolding tupled
tuple_end frozen own all row j l = at_end (tupled frozen own all) (Ok (all, own)) refl (λ x. refl) row j l

item_suc : (xs : List Val) (i : ℕ) (x : Val) → i < length xs → x ≡ slice_index_or xs i x → drop i xs ≡ x ∷ drop (suc i) xs
item_suc [] i x l h = absurd (omega arith)
item_suc (y ∷ xs) zero x l h = rw h refl
item_suc (y ∷ xs) (suc i) x l h = item_suc xs i x (omega arith) h

pub drop_item : (xs : List Val) (i : ℕ) (x : Val) → i < length xs → x ≡ slice_index_or xs i x → drop i xs ≡ x ∷ drop (i + 1) xs
drop_item xs i x l h = rw add-one (item_suc xs i x l h)

pub drop_all : (xs : List Val) (i : ℕ) → length xs ≤ i → drop i xs ≡ []
drop_all [] zero l = refl
drop_all [] (suc i) l = refl
drop_all (x ∷ xs) zero l = absurd (omega arith)
drop_all (x ∷ xs) (suc i) l = drop_all xs i (omega arith)

pub given_ok : {A : Type 0} (o : Option A) (x : A) → Answers (Ok x) (given o) → o ≡ Some x
given_ok None x h = cc
given_ok (Some y) x h = let e : y ≡ x = cc in ap Some e
