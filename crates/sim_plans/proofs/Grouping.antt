-- Statements in groups by the signals that they drive.
use Rattle.std.specs.Prelude.{◌≡◌, ◌≢◌, refl, ℕ, zero, suc, ◌+◌, ◌<◌, ◌≤◌, ◌⊎◌, ◌==◌, ◌||◌, Bool, true, false, if◌then◌else◌, List, [], ◌∷◌, ◌++◌, take, length, replicate, slice_set}
use Rattle.std.specs.List.{AllByRecursion, filter, range_with_len}
use Rattle.std.proofs.Common.{sym, ◌∙◌, ap, arith, subst, inl, inr, ⊎_elim, get_or, add-one}
use Rattle.std.proofs.lemmas.Bool.{cases_Bool, cases_eq, cases_lt, eq-eqb, eqb-true}
use Rattle.std.proofs.lemmas.List.{get_or-set_same, get_or-set_other}
use Rattle.design_ir.specs.declared.ids.SigId.{SigId}
use Rattle.design_ir.specs.Circuits.{is_among}
use Rattle.sim_plans.specs.Driven.{numbers_of}
use Rattle.sim_plans.specs.Groups.{AreNoted, AreLabels, AreJoined, IsForest, Keeps, Respects, drives_of, label_of}
use Rattle.sim_plans.proofs.Forests.{joined_keeps}
use Rattle.sim_plans.proofs.Rooting.{range_more}

-- ---- signals one after another

taken_next : (xs : List SigId) (i : ℕ) (x : SigId) (s : ℕ) → i < length xs → x ≡ get_or xs i x → is_among (numbers_of (take (suc i) xs)) s ≡ true → (is_among (numbers_of (take i xs)) s ≡ true) ⊎ (x.0 ≡ s)
taken_next [] i x s h is m = absurd (omega (arith, h))
taken_next (y ∷ ys) zero x s h is m = inr (ap (λ (z : SigId). z.0) is ∙ eqb-true y.0 s (or_false (y.0 == s) m))
  where
    or_false : (b : Bool) → (b || false) ≡ true → b ≡ true
    or_false true e = refl
    or_false false e = e
taken_next (y ∷ ys) (suc i) x s h is m =
    ⊎_elim
    (λ (e : (y.0 == s) ≡ true). inl (ap (λ b. b || is_among (numbers_of (take i ys)) s) e))
    (λ (e : (y.0 == s) ≡ false).
    ⊎_elim
    (λ (r : is_among (numbers_of (take i ys)) s ≡ true). inl (ap (λ b. b || is_among (numbers_of (take i ys)) s) e ∙ r))
    (λ r. inr r)
    (taken_next ys i x s (omega (arith, h)) is (sym (ap (λ b. b || is_among (numbers_of (take (suc i) ys)) s) e) ∙ m)))
    (cases_Bool (y.0 == s))

-- a signal among the first so many and one more is among them or is the one
pub taken_turn : (xs : List SigId) (i : ℕ) (x : SigId) (s : ℕ) → i < length xs → x ≡ get_or xs i x → is_among (numbers_of (take (i + 1) xs)) s ≡ true → (is_among (numbers_of (take i xs)) s ≡ true) ⊎ (x.0 ≡ s)
taken_turn xs i x s h is m = taken_next xs i x s h is (ap (λ k. is_among (numbers_of (take k xs)) s) (sym (add-one i)) ∙ m)

pub taken_all : {A : Type 0} (xs : List A) (i : ℕ) → length xs ≤ i → take i xs ≡ xs
taken_all [] zero h = refl
taken_all [] (suc i) h = refl
taken_all (x ∷ xs) zero h = absurd (omega (arith, h))
taken_all (x ∷ xs) (suc i) h = ap (λ ys. x ∷ ys) (taken_all xs i (omega (arith, h)))

pub signal_has : (P : ℕ → Type 0) (xs : List SigId) (i : ℕ) (x : SigId) → i < length xs → x ≡ get_or xs i x → AllByRecursion P (numbers_of xs) → P x.0
signal_has P [] i x h is all = absurd (omega (arith, h))
signal_has P (y ∷ ys) zero x h is all = subst (λ (z : SigId). P z.0) (sym is) all.0
signal_has P (y ∷ ys) (suc i) x h is all = signal_has P ys i x (omega (arith, h)) is all.1

-- ---- notes

-- one place more has the number, and the others have what they had
module _ (old : List ℕ) (x i : ℕ) (there : x < length old) where
  abbrev noted : List ℕ
  noted = slice_set old x i

  set_cases : (s : ℕ) → (get_or noted s 0 ≡ i) ⊎ (get_or noted s 0 ≡ get_or old s 0)
  set_cases s =
      ⊎_elim (λ (e : x ≡ s). inl (subst (λ k. get_or noted k 0 ≡ i) e (get_or-set_same old x i 0 there))) (λ (e : x ≢ s). inr (get_or-set_other old x s i 0 (λ f. e (sym f)))) (cases_eq x s)

  pub either_turn : (first : List ℕ) → ((s : ℕ) → (get_or old s 0 ≡ get_or first s 0) ⊎ (get_or old s 0 ≡ i)) → (s : ℕ) → (get_or noted s 0 ≡ get_or first s 0) ⊎ (get_or noted s 0 ≡ i)
  either_turn first was s =
      ⊎_elim (λ e. inr e) (λ (e : get_or noted s 0 ≡ get_or old s 0). ⊎_elim (λ f. inl (e ∙ f)) (λ f. inr (e ∙ f)) (was s)) (set_cases s)

  pub noted_turn : (s : ℕ) → (get_or old s 0 ≡ i) ⊎ (x ≡ s) → get_or noted s 0 ≡ i
  noted_turn s h =
      ⊎_elim (λ e. e) (λ (e : get_or noted s 0 ≡ get_or old s 0). ⊎_elim (λ (f : get_or old s 0 ≡ i). e ∙ f) (λ (f : x ≡ s). subst (λ k. get_or noted k 0 ≡ i) f (get_or-set_same old x i 0 there)) h) (set_cases s)

-- one statement more
pub note_turn : (drives : List (List SigId)) (i : ℕ) (signals : List SigId) (old new : List ℕ) → i < length drives → signals ≡ get_or drives i [] → ((s : ℕ) → is_among (numbers_of signals) s ≡ true → get_or new s 0 ≡ i) → ((s : ℕ) → (get_or new s 0 ≡ get_or old s 0) ⊎ (get_or new s 0 ≡ i)) → AreNoted drives i old → AreNoted drives (i + 1) new
note_turn drives i signals old new h is noted either was j s lt m =
    ⊎_elim
    (λ (e : j < i). ⊎_elim (λ (f : get_or new s 0 ≡ get_or old s 0). omega (arith, f, was j s e m)) (λ (f : get_or new s 0 ≡ i). omega (arith, f, h)) (either s))
    (λ (e : i ≤ j).
    let same : j ≡ i = omega (arith, e, lt) in
    let here = noted s (ap (λ ss. is_among (numbers_of ss) s) (is ∙ ap (λ k. get_or drives k []) (sym same)) ∙ m) in
    omega (arith, here, h))
    (cases_lt j i)

-- ---- joins

-- one signal more
pub join_turn : (signals : List SigId) (k : ℕ) (x : SigId) (i : ℕ) (noted old new : List ℕ) → k < length signals → x ≡ get_or signals k x → Keeps old new → AreJoined new i (get_or noted x.0 0) → ((s : ℕ) → is_among (numbers_of (take k signals)) s ≡ true → AreJoined old i (get_or noted s 0)) → (s : ℕ) → is_among (numbers_of (take (k + 1) signals)) s ≡ true → AreJoined new i (get_or noted s 0)
join_turn signals k x i noted old new h is keeps joined was s m =
    ⊎_elim
    (λ (e : is_among (numbers_of (take k signals)) s ≡ true). joined_keeps old new i (get_or noted s 0) keeps (was s e))
    (λ (e : x.0 ≡ s). subst (λ t. AreJoined new i (get_or noted t 0)) e joined)
    (taken_turn signals k x s h is m)

-- one statement more
pub join_all_turn : (drives : List (List SigId)) (i : ℕ) (signals : List SigId) (noted old new : List ℕ) → signals ≡ get_or drives i [] → Keeps old new → ((s : ℕ) → is_among (numbers_of signals) s ≡ true → AreJoined new i (get_or noted s 0)) → ((j s : ℕ) → j < i → is_among (drives_of drives j) s ≡ true → AreJoined old j (get_or noted s 0)) → (j s : ℕ) → j < i + 1 → is_among (drives_of drives j) s ≡ true → AreJoined new j (get_or noted s 0)
join_all_turn drives i signals noted old new is keeps joined was j s lt m =
    ⊎_elim
    (λ (e : j < i). joined_keeps old new j (get_or noted s 0) keeps (was j s e m))
    (λ (e : i ≤ j).
    let same : i ≡ j = omega (arith, e, lt) in
    subst (λ k. AreJoined new k (get_or noted s 0)) same (joined s (ap (λ ss. is_among (numbers_of ss) s) (is ∙ ap (λ k. get_or drives k []) same) ∙ m)))
    (cases_lt j i)

-- ---- labels

-- where each number stands directly below its root, those are labels
pub labelled : (drives : List (List SigId)) (noted old labels : List ℕ) → length labels ≡ length drives → IsForest labels → Keeps old labels → ((i : ℕ) → i < length labels → get_or labels (get_or labels i 0) 0 ≡ get_or labels i 0)
    → ((i s : ℕ) → i < length drives → is_among (drives_of drives i) s ≡ true → AreJoined old i (get_or noted s 0)) → AreLabels drives labels
labelled drives noted old labels long forest keeps flat joined = record {
  count = long;
  below = λ i h. omega (arith, forest i h, h);
  same = λ i j s hi hj mi mj. joined i s hi mi (label_of labels) (keeps (label_of labels) respects) ∙ sym (joined j s hj mj (label_of labels) (keeps (label_of labels) respects));
}
  where
    respects : Respects (label_of labels) labels
    respects i h = sym (flat i h)

-- ---- members

none_here : (n g : ℕ) → get_or (replicate {A = List ℕ} n []) g [] ≡ []
none_here zero g = refl
none_here (suc n) zero = refl
none_here (suc n) (suc g) = none_here n g

none_long : (n : ℕ) → length (replicate {A = List ℕ} n []) ≡ n
none_long zero = refl
none_long (suc n) = ap suc (none_long n)

pub gather_first : (labels : List ℕ) (groups : List (List ℕ)) (n : ℕ) → n ≡ length labels → groups ≡ replicate n [] → (length groups ≡ length labels) × ((g : ℕ) → g < length labels → get_or groups g [] ≡ [])
gather_first labels groups n many e = (ap length e ∙ none_long n ∙ many, λ g h. ap (λ gs. get_or gs g []) e ∙ none_here n g)

filter_more : (p : ℕ → Bool) (xs : List ℕ) (x : ℕ) → filter p (xs ++ x ∷ []) ≡ filter p xs ++ (if p x then x ∷ [] else [])
filter_more p [] x = one (p x)
  where
    one : (b : Bool) → (if b then x ∷ [] else []) ≡ [] ++ (if b then x ∷ [] else [])
    one true = refl
    one false = refl
filter_more p (y ∷ xs) x = both (p y) (filter_more p xs x)
  where
    both : (b : Bool) → filter p (xs ++ x ∷ []) ≡ filter p xs ++ (if p x then x ∷ [] else []) → (if b then y ∷ filter p (xs ++ x ∷ []) else filter p (xs ++ x ∷ [])) ≡ (if b then y ∷ filter p xs else filter p xs) ++ (if p x then x ∷ [] else [])
    both true e = ap (λ ys. y ∷ ys) e
    both false e = e

append_nil : (xs : List ℕ) → xs ++ [] ≡ xs
append_nil [] = refl
append_nil (x ∷ xs) = ap (λ ys. x ∷ ys) (append_nil xs)

range_next : (p : ℕ → Bool) (i : ℕ) → filter p (range_with_len 0 (i + 1)) ≡ filter p (range_with_len 0 i) ++ (if p i then i ∷ [] else [])
range_next p i =
    let e : 0 + i ≡ i = omega arith in
    ap (λ n. filter p (range_with_len 0 n)) (add-one i) ∙ ap (filter p) (range_more 0 i) ∙ ap (λ k. filter p (range_with_len 0 i ++ k ∷ [])) e ∙ filter_more p (range_with_len 0 i) i

-- one statement more in its group
pub gather_turn : (labels : List ℕ) (i : ℕ) (old : List (List ℕ)) (one : List ℕ) → label_of labels i < length old → one ≡ get_or old (label_of labels i) [] ++ i ∷ []
    → ((g : ℕ) → g < length labels → get_or old g [] ≡ filter (λ j. label_of labels j == g) (range_with_len 0 i))
    → (g : ℕ) → g < length labels → get_or (slice_set old (label_of labels i) one) g [] ≡ filter (λ j. label_of labels j == g) (range_with_len 0 (i + 1))
gather_turn labels i old one there grown was g h =
    ⊎_elim
    (λ (e : label_of labels i ≡ g).
    ap (λ k. get_or (slice_set old (label_of labels i) one) k []) (sym e) ∙ get_or-set_same old (label_of labels i) one [] there ∙ grown
    ∙ ap (λ k. get_or old k [] ++ i ∷ []) e ∙ ap (λ xs. xs ++ i ∷ []) (was g h)
    ∙ ap (λ b. filter (λ j. label_of labels j == g) (range_with_len 0 i) ++ (if b then i ∷ [] else [])) (sym (eq-eqb (label_of labels i) g e))
    ∙ sym (range_next (λ j. label_of labels j == g) i))
    (λ (e : label_of labels i ≢ g).
    get_or-set_other old (label_of labels i) g one [] (λ f. e (sym f)) ∙ was g h
    ∙ sym (append_nil (filter (λ j. label_of labels j == g) (range_with_len 0 i)))
    ∙ ap (λ b. filter (λ j. label_of labels j == g) (range_with_len 0 i) ++ (if b then i ∷ [] else [])) (sym (other e))
    ∙ sym (range_next (λ j. label_of labels j == g) i))
    (cases_eq (label_of labels i) g)
  where
    other : label_of labels i ≢ g → (label_of labels i == g) ≡ false
    other e = ⊎_elim (λ (t : (label_of labels i == g) ≡ true). absurd (e (eqb-true (label_of labels i) g t))) (λ (t : (label_of labels i == g) ≡ false). t) (cases_Bool (label_of labels i == g))

-- ---- fronts of lists

nothing : {A : Type 0} (zs : List A) → take 0 zs ≡ []
nothing [] = refl
nothing (z ∷ zs) = refl

pub front_taken : {A : Type 0} (n : ℕ) (xs ys : List A) → n ≡ length xs → take n (xs ++ ys) ≡ xs
front_taken n [] ys e = ap (λ k. take k ys) e ∙ nothing ys
front_taken zero (x ∷ xs) ys e = absurd (omega (arith, e))
front_taken (suc n) (x ∷ xs) ys e = ap (λ zs. x ∷ zs) (front_taken n xs ys (omega (arith, e)))
