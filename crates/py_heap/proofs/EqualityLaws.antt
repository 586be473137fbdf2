-- The turns of an equality of elements.
use Rattle.std.proofs.Common.{◌≡◌, ℕ, zero, suc, ◌+◌, ◌-◌, ◌≤◌, ◌<◌, Bool, true, false, cond, List, [], ◌∷◌, length, drop, Option, Some, None, Result, Ok, Err, refl, arith, ap, sym, ◌∙◌, sub-one, add-one}
use Rattle.std.specs.Prelude.{slice_get, slice_index_or}
use Rattle.std.proofs.Math.Seq.{drop-cons}
use Rattle.py_values.specs.declared.val.Val.{Val}
use Rattle.py_values.specs.declared.val.ValueStop.{ValueStop}
use Rattle.py_values.specs.declared.val.ValueStop.TheVariants.{Raised, Width, Limit, Spent, NoMemory}
use Rattle.py_values.specs.Runs.{Run, Charged, later, after, give, refuse, carried}
use Rattle.py_heap.specs.Heaps.{Seen}
use Rattle.py_heap.specs.Equality.{deeper, all_equal, equal_to}

pub ok_or_err : {A : Type 0} (r : Result A ValueStop) (x : A) (stop : ValueStop) → r ≡ Ok x → r ≡ Err stop → ⊥
ok_or_err r x stop p q = cc

-- what is owed after so many units, from what is owed without them
pub charged_later : {A : Type 0} (r : Result A ValueStop) (before mid left k : ℕ) (m : Run A) → mid + k ≡ before → Charged r mid left m → Charged r before left (later k m)
charged_later (Ok x) before mid left k m e h = (h.0, omega (arith, h.1), h.2)
charged_later (Err Raised) before mid left k m e h = (h.0, omega (arith, h.1), h.2)
charged_later (Err Width) before mid left k m e h = (h.0, omega (arith, h.1), h.2)
charged_later (Err Limit) before mid left k m e h = (h.0, omega (arith, h.1), h.2)
charged_later (Err Spent) before mid left k m e h = (omega (arith, h.0), h.1)
charged_later (Err NoMemory) before mid left k m e h = tt

-- a refusal on the way is a refusal
pub charged_err : {A B : Type 0} (stop : ValueStop) (before left k : ℕ) (r : Result A ValueStop) (f : A → Run B) → Charged {A = A} (Err stop) before left (record { cost = k; answer = r }) → Charged {A = B} (Err stop) before left (carried k r f)
charged_err Raised before left k r f h = rw h.0 (refl, h.1, h.2)
charged_err Width before left k r f h = rw h.0 (refl, h.1, h.2)
charged_err Limit before left k r f h = rw h.0 (refl, h.1, h.2)
charged_err Spent before left k (Ok x) f h = (omega (arith, h.0), h.1)
charged_err Spent before left k (Err e) f h = h
charged_err NoMemory before left k r f h = tt

-- a unit that is not there
pub charged_spent : {A : Type 0} (stop : ValueStop) (before left : ℕ) (m : Run A) → Charged {A = Unit {0}} (Err stop) before left (later 1 (give tt)) → Charged {A = A} (Err stop) before left (later 1 m)
charged_spent Raised before left m h = absurd (ok_or_err (Ok tt) tt Raised refl h.0)
charged_spent Width before left m h = absurd (ok_or_err (Ok tt) tt Width refl h.0)
charged_spent Limit before left m h = absurd (ok_or_err (Ok tt) tt Limit refl h.0)
charged_spent Spent before left m h = (omega (arith, h.0), h.1)
charged_spent NoMemory before left m h = tt

pub charged_give : {A : Type 0} (x : A) (left : ℕ) → 0 < left → Charged (Ok x) left left (give x)
charged_give x left h = (refl, omega arith, h)

-- a value on the way, and then what comes after it
pub charged_ok : {A B : Type 0} (x : A) (r : Result B ValueStop) (before mid left k : ℕ) (q : Result A ValueStop) (f : A → Run B) → Charged (Ok x) before mid (record { cost = k; answer = q }) → Charged r mid left (f x) → Charged r before left (carried k q f)
charged_ok x r before mid left k q f h g = rw h.0 (charged_later r before mid left k (f x) h.1 g)

-- one pair of elements, and the rest
turn_suc : (same : Val → Val → Run Bool) (xs ys : List Val) (i : ℕ) (x y : Val) → i < length xs → length xs ≡ length ys → x ≡ slice_index_or xs i x → y ≡ slice_index_or ys i y → all_equal same (drop i xs) (drop i ys) ≡ after (later 1 (same x y)) (λ e. cond e (all_equal same (drop (suc i) xs) (drop (suc i) ys)) (give false))
turn_suc same [] ys i x y h l p q = absurd (omega arith)
turn_suc same (a ∷ xs) [] i x y h l p q = absurd (omega arith)
turn_suc same (a ∷ xs) (b ∷ ys) zero x y h l p q = rw (p, q) refl
turn_suc same (a ∷ xs) (b ∷ ys) (suc i) x y h l p q = turn_suc same xs ys i x y (omega arith) (omega arith) p q

pub turn : (same : Val → Val → Run Bool) (xs ys : List Val) (i : ℕ) (x y : Val) → i < length xs → length xs ≡ length ys → x ≡ slice_index_or xs i x → y ≡ slice_index_or ys i y → all_equal same (drop i xs) (drop i ys) ≡ after (later 1 (same x y)) (λ e. cond e (all_equal same (drop (i + 1) xs) (drop (i + 1) ys)) (give false))
turn same xs ys i x y h l p q = rw add-one (turn_suc same xs ys i x y h l p q)

ended_nil : (same : Val → Val → Run Bool) (xs : List Val) (i : ℕ) → length xs ≤ i → all_equal same (drop i xs) [] ≡ give true
ended_nil same [] zero h = refl
ended_nil same [] (suc i) h = refl
ended_nil same (x ∷ xs) zero h = absurd (omega arith)
ended_nil same (x ∷ xs) (suc i) h = ended_nil same xs i (omega arith)

pub ended : (same : Val → Val → Run Bool) (xs ys : List Val) (i : ℕ) → length xs ≤ i → all_equal same (drop i xs) (drop i ys) ≡ give true
ended same [] ys zero h = refl
ended same [] ys (suc i) h = refl
ended same (x ∷ xs) ys zero h = absurd (omega arith)
ended same (x ∷ xs) [] (suc i) h = ended_nil same xs i (omega arith)
ended same (x ∷ xs) (y ∷ ys) (suc i) h = ended same xs ys i (omega arith)

pub deeper_none : (n : ℕ) (s : Seen) (xs ys : List Val) → n ≡ 0 → length xs ≡ 0 → deeper n s xs ys ≡ give true
unfolding deeper
deeper_none zero s [] ys e h = refl
deeper_none zero s (x ∷ xs) ys e h = absurd (omega arith)
deeper_none (suc n) s xs ys e h = absurd (omega arith)

pub deeper_past : (n : ℕ) (s : Seen) (xs ys : List Val) → n ≡ 0 → 0 < length xs → deeper n s xs ys ≡ refuse Raised
unfolding deeper
deeper_past zero s [] ys e h = absurd (omega arith)
deeper_past zero s (x ∷ xs) ys e h = refl
deeper_past (suc n) s xs ys e h = absurd (omega arith)

pub deeper_more : (n : ℕ) (s : Seen) (xs ys : List Val) → 0 < n → deeper n s xs ys ≡ all_equal (equal_to (n - 1) s) xs ys
unfolding deeper
deeper_more zero s xs ys h = absurd (omega arith)
deeper_more (suc n) s xs ys h = rw sub-one refl
