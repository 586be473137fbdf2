-- Groups of statements, one after another.
use Rattle.std.specs.Prelude.{◌≡◌, refl, ℕ, zero, suc, ◌+◌, ◌<◌, ◌≤◌, ◌⊎◌, ◌==◌, ◌||◌, if◌then◌else◌, Bool, true, false, List, [], ◌∷◌, ◌++◌, take, length}
use Rattle.std.specs.List.{AllByRecursion, filter, range_with_len}
use Rattle.std.proofs.Common.{sym, ◌∙◌, ap, arith, subst, inl, inr, ⊎_elim, get_or, add-one, append_assoc, append-nil}
use Rattle.std.proofs.lemmas.Bool.{cases_Bool, cases_eq, eq-eqb, eqb-true, false≢true}
use Rattle.design_ir.specs.declared.ids.SigId.{SigId}
use Rattle.design_ir.specs.Circuits.{is_among}
use Rattle.design_ir.specs.Pools.{Pooled}
use Rattle.design_ir.specs.Trees.{Block, statements}
use Rattle.sim_plans.specs.Groups.{AreGroups, AreOthers, IsApart, IsAscending, drives_at, drives_of, label_of, members}
use Rattle.sim_plans.proofs.Agrees.{left, right}
use Rattle.sim_plans.proofs.Likes.{among_append}
use Rattle.sim_plans.proofs.Picking.{drives_some}
use Rattle.sim_plans.proofs.SignalsInside.{all_of}

-- all groups one behind another
abbrev pub joined : List (List ℕ) → List ℕ
joined [] = []
joined (g ∷ gs) = g ++ joined gs

or_cases : (a b : Bool) → (a || b) ≡ true → (a ≡ true) ⊎ (b ≡ true)
or_cases true b e = inl refl
or_cases false b e = inr e

-- ---- ranges

range_inside : (a n i : ℕ) → is_among (range_with_len a n) i ≡ true → (a ≤ i) × (i < a + n)
range_inside a zero i h = absurd (false≢true h)
range_inside a (suc n) i h =
    ⊎_elim
    (λ (e : (a == i) ≡ true). let s = eqb-true a i e in (omega (arith, s), omega (arith, s)))
    (λ (e : is_among (range_with_len (a + 1) n) i ≡ true). let r = range_inside (a + 1) n i e in (omega (arith, r.0), omega (arith, r.1)))
    (or_cases (a == i) (is_among (range_with_len (a + 1) n) i) h)

range_has : (a n i : ℕ) → a ≤ i → i < a + n → is_among (range_with_len a n) i ≡ true
range_has a zero i le lt = absurd (omega (arith, le, lt))
range_has a (suc n) i le lt =
    ⊎_elim
    (λ (e : (a == i) ≡ true). left (a == i) (is_among (range_with_len (a + 1) n) i) e)
    (λ (e : (a == i) ≡ false). right (a == i) (is_among (range_with_len (a + 1) n) i) (range_has (a + 1) n i (later e) (omega (arith, lt))))
    (cases_Bool (a == i))
  where
    later : (a == i) ≡ false → a + 1 ≤ i
    later e = ⊎_elim (λ (s : a ≡ i). absurd (false≢true (sym e ∙ eq-eqb a i s))) (λ s. omega (arith, s, le)) (cases_eq a i)

filter_of : (p : ℕ → Bool) (xs : List ℕ) (i : ℕ) → is_among (filter p xs) i ≡ true → (is_among xs i ≡ true) × (p i ≡ true)
filter_of p [] i h = absurd (false≢true h)
filter_of p (x ∷ xs) i h = go (p x) refl h
    (λ g. let r = filter_of p xs i g in (right (x == i) (is_among xs i) r.0, r.1))
  where
    go : (t : Bool) → p x ≡ t → is_among (if t then x ∷ filter p xs else filter p xs) i ≡ true → (is_among (filter p xs) i ≡ true → (((x == i) || is_among xs i) ≡ true) × (p i ≡ true)) → (((x == i) || is_among xs i) ≡ true) × (p i ≡ true)
    go true e m rest =
        ⊎_elim (λ (s : (x == i) ≡ true). (left (x == i) (is_among xs i) s, ap p (sym (eqb-true x i s)) ∙ e)) (λ g. rest g) (or_cases (x == i) (is_among (filter p xs) i) m)
    go false e m rest = rest m

filter_has : (p : ℕ → Bool) (xs : List ℕ) (i : ℕ) → is_among xs i ≡ true → p i ≡ true → is_among (filter p xs) i ≡ true
filter_has p [] i h t = absurd (false≢true h)
filter_has p (x ∷ xs) i h t = go (p x) refl (or_cases (x == i) (is_among xs i) h) (λ g. filter_has p xs i g t)
  where
    go : (b : Bool) → p x ≡ b → ((x == i) ≡ true) ⊎ (is_among xs i ≡ true) → (is_among xs i ≡ true → is_among (filter p xs) i ≡ true) → is_among (if b then x ∷ filter p xs else filter p xs) i ≡ true
    go true e m rest = ⊎_elim (λ (s : (x == i) ≡ true). left (x == i) (is_among (filter p xs) i) s) (λ g. right (x == i) (is_among (filter p xs) i) (rest g)) m
    go false e m rest = ⊎_elim (λ (s : (x == i) ≡ true). absurd (false≢true (sym e ∙ ap p (eqb-true x i s) ∙ t))) (λ g. rest g) m

filter_ascends : (p : ℕ → Bool) (a n : ℕ) → IsAscending (filter p (range_with_len a n))
filter_ascends p a zero = tt
filter_ascends p a (suc n) = go (p a) (filter_ascends p (a + 1) n)
  where
    rest : List ℕ
    rest = filter p (range_with_len (a + 1) n)

    later : AllByRecursion (λ j. a < j) rest
    later = all_of (λ j. a < j) rest (λ j h. let r = range_inside (a + 1) n j (filter_of p (range_with_len (a + 1) n) j h).0 in omega (arith, r.0))

    go : (t : Bool) → IsAscending rest → IsAscending (if t then a ∷ rest else rest)
    go true h = (later, h)
    go false h = h

-- ---- joined groups

joined_take : (gs : List (List ℕ)) (l i : ℕ) → is_among (joined (take l gs)) i ≡ true → (m : ℕ) × (m < l) × (m < length gs) × (is_among (get_or gs m []) i ≡ true)
joined_take [] zero i h = absurd (false≢true h)
joined_take [] (suc l) i h = absurd (false≢true h)
joined_take (g ∷ gs) zero i h = absurd (false≢true h)
joined_take (g ∷ gs) (suc l) i h =
    ⊎_elim
    (λ (e : is_among g i ≡ true). (0, omega arith, omega arith, e))
    (λ (e : is_among (joined (take l gs)) i ≡ true). let r = joined_take gs l i e in (suc r.0, omega (arith, r.1), omega (arith, r.2), r.3))
    (or_cases (is_among g i) (is_among (joined (take l gs)) i) (sym (among_append g (joined (take l gs)) i) ∙ h))

joined_has : (gs : List (List ℕ)) (m i : ℕ) → m < length gs → is_among (get_or gs m []) i ≡ true → is_among (joined gs) i ≡ true
joined_has [] m i h e = absurd (omega (arith, h))
joined_has (g ∷ gs) zero i h e = among_append g (joined gs) i ∙ left (is_among g i) (is_among (joined gs) i) e
joined_has (g ∷ gs) (suc m) i h e = among_append g (joined gs) i ∙ right (is_among g i) (is_among (joined gs) i) (joined_has gs m i (omega (arith, h)) e)

next_joined : (gs : List (List ℕ)) (l : ℕ) (g : List ℕ) → l < length gs → g ≡ get_or gs l g → joined (take (suc l) gs) ≡ joined (take l gs) ++ g
next_joined [] l g h e = absurd (omega (arith, h))
next_joined (x ∷ gs) zero g h e = ap (λ ys. x ++ joined ys) (nothing gs) ∙ append-nil x ∙ sym e
  where
    nothing : (ys : List (List ℕ)) → take 0 ys ≡ []
    nothing [] = refl
    nothing (y ∷ ys) = refl
next_joined (x ∷ gs) (suc l) g h e = ap (λ ys. x ++ ys) (next_joined gs l g (omega (arith, h)) e) ∙ sym (append_assoc x (joined (take l gs)) g)

pub joined_next : (gs : List (List ℕ)) (l : ℕ) (g : List ℕ) → l < length gs → g ≡ get_or gs l g → joined (take (l + 1) gs) ≡ joined (take l gs) ++ g
joined_next gs l g h e = ap (λ k. joined (take k gs)) (add-one l) ∙ next_joined gs l g h e

-- ---- the groups of a block

module _ (p : Pooled) (b : Block) (drives : List (List SigId)) (many : length drives ≡ length (statements b)) (are : (i s : ℕ) → i < length (statements b) → is_among (drives_of drives i) s ≡ drives_at p b i s)
    (groups : List (List ℕ)) (of : AreGroups drives groups) where
  abbrev n : ℕ
  n = length of.labels

  all_n : n ≡ length (statements b)
  all_n = of.are_labels.count ∙ many

  group_is : (l : ℕ) → l < length groups → get_or groups l [] ≡ members of.labels l
  group_is l h = of.are_members.each l (omega (arith, h, of.are_members.count))

  in_group : (l i : ℕ) → l < length groups → is_among (get_or groups l []) i ≡ true → (i < length (statements b)) × (label_of of.labels i ≡ l)
  in_group l i h m =
      let r = filter_of (λ j. label_of of.labels j == l) (range_with_len 0 n) i (ap (λ xs. is_among xs i) (sym (group_is l h)) ∙ m) in
      let inside = range_inside 0 n i r.0 in
      (omega (arith, inside.1, all_n), eqb-true (label_of of.labels i) l r.1)

  group_has : (l i : ℕ) → l < length groups → i < length (statements b) → label_of of.labels i ≡ l → is_among (get_or groups l []) i ≡ true
  group_has l i h lt e =
      ap (λ xs. is_among xs i) (group_is l h)
      ∙ filter_has (λ j. label_of of.labels j == l) (range_with_len 0 n) i (range_has 0 n i (omega arith) (omega (arith, lt, all_n))) (eq-eqb (label_of of.labels i) l e)

  -- a group has all statements that drive a signal which one of it drives
  pub group_apart : (l : ℕ) → l < length groups → IsApart p b (get_or groups l [])
  group_apart l h = record {
    inside = all_of (λ i. i < length (statements b)) (get_or groups l []) (λ i m. (in_group l i h m).0);
    ascends = subst IsAscending (sym (group_is l h)) (filter_ascends (λ j. label_of of.labels j == l) 0 n);
    alone = λ i s lt d all.
        let r = drives_some p s b (get_or groups l []) all in
        let own = in_group l r.0 h r.1 in
        let same = of.are_labels.same i r.0 s (omega (arith, lt, many)) (omega (arith, own.0, many)) (are i s lt ∙ d) (are r.0 s own.0 ∙ r.2) in
        group_has l i h lt (same ∙ own.1);
  }

  -- no statement is in two groups
  pub group_others : (l : ℕ) → l < length groups → AreOthers (joined (take l groups)) (get_or groups l [])
  group_others l h i m =
      let r = joined_take groups l i m in
      let first = in_group r.0 i r.2 r.3 in
      ⊎_elim
      (λ (t : is_among (get_or groups l []) i ≡ true). absurd (omega (arith, r.1, first.1, (in_group l i h t).1)))
      (λ (t : is_among (get_or groups l []) i ≡ false). t)
      (cases_Bool (is_among (get_or groups l []) i))

  -- each statement is in one
  pub group_all : (i : ℕ) → i < length (statements b) → is_among (joined groups) i ≡ true
  group_all i lt =
      let inside : label_of of.labels i < length groups = omega (arith, of.are_labels.below i (omega (arith, lt, all_n)), of.are_members.count) in
      joined_has groups (label_of of.labels i) i inside (group_has (label_of of.labels i) i inside lt refl)
