-- Numbers that wait, each once.
use Rattle.std.specs.Prelude.{◌≡◌, ◌≢◌, refl, ℕ, zero, suc, ◌+◌, ◌<◌, ◌≤◌, ◌==◌, ◌||◌, Bool, true, false, cond, List, [], ◌∷◌, ◌++◌, length, take, drop, replicate, slice_index_or, slice_set}
use Rattle.std.specs.List.{AllByRecursion, count_by}
use Rattle.std.proofs.Common.{sym, ◌∙◌, ap, arith, subst, ⊎_elim, get_or, add-one}
use Rattle.std.proofs.lemmas.Bool.{false≢true, cases_Bool, cases_eq, eqb-true, eq-eqb}
use Rattle.std.proofs.lemmas.List.{length-set, get_or-set_same, get_or-set_other}
use Rattle.std.proofs.lemmas.List.Sums.{count_by-le-length, sum_by-cons}
use Rattle.std.proofs.Math.Seq.{take-suc-set}
use Rattle.design_ir.specs.Circuits.{is_among}
use Rattle.sim_plans.specs.Waiting.{Waiting, IsWaiting}
use Rattle.sim_plans.proofs.Likes.{among_append}
use Rattle.sim_plans.proofs.Marks.{or_false}

-- ---- counts

abbrev marked_in : List Bool → ℕ
marked_in marks = count_by (λ b. b) marks

with_mark : (marks : List Bool) → marked_in (true ∷ marks) ≡ 1 + marked_in marks
with_mark marks = sum_by-cons (λ b. cond b 1 0) true marks

without_mark : (marks : List Bool) → marked_in (false ∷ marks) ≡ 0 + marked_in marks
without_mark marks = sum_by-cons (λ b. cond b 1 0) false marks

pub count_most : (marks : List Bool) → marked_in marks ≤ length marks
count_most marks = count_by-le-length (λ b. b) marks

count_gap : (marks : List Bool) (n : ℕ) → n < length marks → slice_index_or marks n false ≡ false → marked_in marks < length marks
count_gap [] n h e = absurd (omega (arith, h))
count_gap (true ∷ marks) zero h e = absurd (false≢true (sym e))
count_gap (false ∷ marks) zero h e = omega (arith, count_most marks, without_mark marks)
count_gap (true ∷ marks) (suc n) h e = omega (arith, count_gap marks n (omega (arith, h)) e, with_mark marks)
count_gap (false ∷ marks) (suc n) h e = omega (arith, count_gap marks n (omega (arith, h)) e, without_mark marks)

count_set : (marks : List Bool) (n : ℕ) → n < length marks → slice_index_or marks n false ≡ false → marked_in (slice_set marks n true) ≡ marked_in marks + 1
count_set [] n h e = absurd (omega (arith, h))
count_set (true ∷ marks) zero h e = absurd (false≢true (sym e))
count_set (false ∷ marks) zero h e = omega (arith, with_mark marks, without_mark marks)
count_set (true ∷ marks) (suc n) h e = omega (arith, count_set marks n (omega (arith, h)) e, with_mark marks, with_mark (slice_set marks n true))
count_set (false ∷ marks) (suc n) h e = omega (arith, count_set marks n (omega (arith, h)) e, without_mark marks, without_mark (slice_set marks n true))

pub none_counted : (n : ℕ) → marked_in (replicate n false) ≡ 0
none_counted zero = refl
none_counted (suc n) = omega (arith, without_mark (replicate n false), none_counted n)

pub none_marked : (n k : ℕ) → slice_index_or (replicate n false) k false ≡ false
none_marked zero k = refl
none_marked (suc n) zero = refl
none_marked (suc n) (suc k) = none_marked n k

pub replicate_length : {A : Type 0} (x : A) (n : ℕ) → length (replicate n x) ≡ n
replicate_length x zero = refl
replicate_length x (suc n) = ap suc (replicate_length x n)

-- none at all
pub none_waiting : (n : ℕ) → IsWaiting record { marks = replicate n false; list = [] }
none_waiting n = record { listed = none_marked n; below = tt; count = sym (none_counted n) }

pub all_false : (marks : List Bool) → ((k : ℕ) → slice_index_or marks k false ≡ false) → marks ≡ replicate (length marks) false
all_false [] h = refl
all_false (b ∷ marks) h =
    let first : b ≡ false = h 0 in
    let rest = all_false marks (λ k. h (suc k)) in
    ap (λ x. x ∷ marks) first ∙ ap (λ xs. false ∷ xs) rest

-- ---- lists

take_all : (len : ℕ) (items : List ℕ) → len ≤ length items → length (take len items) ≡ len
take_all zero [] h = refl
take_all zero (x ∷ items) h = refl
take_all (suc len) [] h = absurd (omega (arith, h))
take_all (suc len) (x ∷ items) h = ap suc (take_all len items (omega (arith, h)))

all_and : (P : ℕ → Type 0) (xs : List ℕ) (n : ℕ) → AllByRecursion P xs → P n → AllByRecursion P (xs ++ n ∷ [])
all_and P [] n h p = (p, tt)
all_and P (x ∷ xs) n h p = (h.0, all_and P xs n h.1 p)

all_along : (P Q : ℕ → Type 0) (xs : List ℕ) → ((x : ℕ) → P x → Q x) → AllByRecursion P xs → AllByRecursion Q xs
all_along P Q [] f h = tt
all_along P Q (x ∷ xs) f h = (f x h.0, all_along P Q xs f h.1)

count_and : (xs : List ℕ) (n : ℕ) → length (xs ++ n ∷ []) ≡ length xs + 1
count_and [] n = refl
count_and (x ∷ xs) n = omega (arith, count_and xs n)

-- ---- one more

module _ (marks : List Bool) (items : List ℕ) (len n : ℕ) (within : len ≤ length items) (long : length items ≡ length marks) (waits : IsWaiting record { marks = marks; list = take len items }) (there : n < length marks) (free : slice_index_or marks n false ≡ false) where
  pub mark_room : len < length items
  mark_room = omega (arith, count_gap marks n there free, waits.count, take_all len items within, long)

  pub more : take (len + 1) (slice_set items len n) ≡ take len items ++ n ∷ []
  more = ap (λ k. take k (slice_set items len n)) (add-one len) ∙ take-suc-set items len n mark_room

  listed : (k : ℕ) → slice_index_or (slice_set marks n true) k false ≡ is_among (take len items ++ n ∷ []) k
  listed k =
      ⊎_elim
      (λ (e : n ≡ k).
      ap (λ j. slice_index_or (slice_set marks n true) j false) (sym e) ∙ get_or-set_same marks n true false there
      ∙ sym (among_append (take len items) (n ∷ []) k ∙ ap (λ b. is_among (take len items) k || (b || false)) (eq-eqb n k e) ∙ or_last (is_among (take len items) k)))
      (λ (e : n ≢ k).
      get_or-set_other marks n k true false (λ f. e (sym f)) ∙ waits.listed k
      ∙ sym (among_append (take len items) (n ∷ []) k ∙ ap (λ b. is_among (take len items) k || (b || false)) (other e) ∙ or_false (is_among (take len items) k)))
      (cases_eq n k)
    where
      or_last : (b : Bool) → (b || true) ≡ true
      or_last true = refl
      or_last false = refl

      other : n ≢ k → (n == k) ≡ false
      other e = ⊎_elim (λ (t : (n == k) ≡ true). absurd (e (eqb-true n k t))) (λ (t : (n == k) ≡ false). t) (cases_Bool (n == k))

  pub mark_waits : IsWaiting record { marks = slice_set marks n true; list = take (len + 1) (slice_set items len n) }
  mark_waits =
      subst (λ xs. IsWaiting record { marks = slice_set marks n true; list = xs }) (sym more)
      (record {
        listed = listed;
        below = all_and (λ k. k < length (slice_set marks n true)) (take len items) n (all_along (λ k. k < length marks) (λ k. k < length (slice_set marks n true)) (take len items) (λ k h. omega (arith, h, length-set marks n true)) waits.below) (omega (arith, there, length-set marks n true));
        count = omega (arith, count_and (take len items) n, count_set marks n there free, waits.count);
      })

-- ---- none any more

-- a mark that is left was there, and is none of those that were taken away
pub unmarked : (marks : List Bool) (n k : ℕ) → slice_index_or (slice_set marks n false) k false ≡ true → (n ≢ k) × (slice_index_or marks k false ≡ true)
unmarked [] n k is = absurd (false≢true is)
unmarked (b ∷ marks) zero zero is = absurd (false≢true is)
unmarked (b ∷ marks) zero (suc k) is = ((λ e. absurd (omega (arith, e))), is)
unmarked (b ∷ marks) (suc n) zero is = ((λ e. absurd (omega (arith, e))), is)
unmarked (b ∷ marks) (suc n) (suc k) is = let r = unmarked marks n k is in ((λ e. r.0 (omega (arith, e))), r.1)

pub among_next : (list : List ℕ) (i k : ℕ) → i < length list → get_or list i 0 ≢ k → is_among (drop (i + 1) list) k ≡ is_among (drop i list) k
among_next list i k h e = ap (λ j. is_among (drop j list) k) (add-one i) ∙ next list i h e
  where
    next : (list : List ℕ) (i : ℕ) → i < length list → get_or list i 0 ≢ k → is_among (drop (suc i) list) k ≡ is_among (drop i list) k
    next [] i h e = absurd (omega (arith, h))
    next (x ∷ list) zero h e =
        let other : (x == k) ≡ false = ⊎_elim (λ (t : (x == k) ≡ true). absurd (e (eqb-true x k t))) (λ (t : (x == k) ≡ false). t) (cases_Bool (x == k)) in
        sym (ap (λ b. b || is_among list k) other)
    next (x ∷ list) (suc i) h e = next list i (omega (arith, h)) e

pub none_left : (list : List ℕ) (i k : ℕ) → length list ≤ i → is_among (drop i list) k ≡ false
none_left [] zero k h = refl
none_left [] (suc i) k h = refl
none_left (x ∷ list) zero k h = absurd (omega (arith, h))
none_left (x ∷ list) (suc i) k h = none_left list i k (omega (arith, h))

-- without the marks of all that wait there are none
pub unmarked_all : (w : Waiting) (marks : List Bool) → IsWaiting w → length marks ≡ length w.marks → ((n : ℕ) → slice_index_or marks n false ≡ true → (is_among w.list n ≡ false) × (slice_index_or w.marks n false ≡ true)) → marks ≡ replicate (length w.marks) false
unmarked_all w marks h long gone =
    all_false marks (λ k. ⊎_elim
    (λ (e : slice_index_or marks k false ≡ true). let g = gone k e in absurd (false≢true (sym g.0 ∙ sym (h.listed k) ∙ g.1)))
    (λ (e : slice_index_or marks k false ≡ false). e) (cases_Bool (slice_index_or marks k false)))
    ∙ ap (λ n. replicate n false) long

-- those that wait are below the bound
pub waits_below : (w : Waiting) → IsWaiting w → (i : ℕ) → i < length w.list → get_or w.list i 0 < length w.marks
waits_below w h i there = at w.list i there h.below
  where
    at : (xs : List ℕ) (i : ℕ) → i < length xs → AllByRecursion (λ n. n < length w.marks) xs → get_or xs i 0 < length w.marks
    at [] i there h = absurd (omega (arith, there))
    at (x ∷ xs) zero there h = h.0
    at (x ∷ xs) (suc i) there h = at xs i (omega (arith, there)) h.1
