-- Numbers below their parents, and which of them are joined.
use Rattle.std.specs.Prelude.{◌≡◌, ◌≢◌, refl, ℕ, zero, suc, ◌+◌, ◌<◌, ◌≤◌, List, length, slice_set}
use Rattle.std.specs.List.{range_with_len}
use Rattle.std.proofs.Common.{sym, ◌∙◌, ap, arith, subst, ⊎_elim, get_or}
use Rattle.std.proofs.lemmas.Bool.{cases_eq, cases_lt}
use Rattle.std.proofs.lemmas.List.{length-set, get_or-set_same, get_or-set_other}
use Rattle.sim_plans.specs.Groups.{IsForest, AreJoined, Keeps}

pub joined_same : (ps : List ℕ) (i : ℕ) → AreJoined ps i i
joined_same ps i f h = refl

pub joined_keeps : (old new : List ℕ) (i j : ℕ) → Keeps old new → AreJoined old i j → AreJoined new i j
joined_keeps old new i j k h f r = h f (k f r)

pub keeps_same : (ps : List ℕ) → Keeps ps ps
keeps_same ps f h = h

pub keeps_both : (a b c : List ℕ) → Keeps a b → Keeps b c → Keeps a c
keeps_both a b c h k f r = h f (k f r)

-- each number its own parent
range_get : (a n i : ℕ) → i < n → get_or (range_with_len a n) i 0 ≡ a + i
range_get a zero i h = absurd (omega (arith, h))
range_get a (suc n) zero h = omega arith
range_get a (suc n) (suc i) h = let e = range_get (a + 1) n i (omega (arith, h)) in e ∙ (let s : a + 1 + i ≡ a + suc i = omega arith in s)

range_long : (a n : ℕ) → length (range_with_len a n) ≡ n
range_long a zero = refl
range_long a (suc n) = ap suc (range_long (a + 1) n)

pub own_forest : (n : ℕ) (ps : List ℕ) → ps ≡ range_with_len 0 n → IsForest ps
own_forest n ps e i h =
    let lt : i < n = omega (arith, h, ap length e, range_long 0 n) in
    let at = range_get 0 n i lt in
    subst (λ xs. get_or xs i 0 ≤ i) (sym e) (omega (arith, at))

pub own_long : (n : ℕ) (ps : List ℕ) → ps ≡ range_with_len 0 n → length ps ≡ n
own_long n ps e = ap length e ∙ range_long 0 n

-- ---- a nearer parent

module _ (ps : List ℕ) (e : ℕ) (there : e < length ps) (forest : IsForest ps) where
  abbrev up : ℕ
  up = get_or ps (get_or ps e 0) 0

  abbrev halved : List ℕ
  halved = slice_set ps e up

  pub up_below : up ≤ get_or ps e 0
  up_below = forest (get_or ps e 0) (omega (arith, forest e there, there))

  pub halved_forest : IsForest halved
  halved_forest i h =
      let inside : i < length ps = omega (arith, h, length-set ps e up) in
      ⊎_elim
      (λ (s : e ≡ i). subst (λ k. get_or halved k 0 ≤ k) s (let at = get_or-set_same ps e up 0 there in omega (arith, at, up_below, forest e there)))
      (λ (s : e ≢ i). let at = get_or-set_other ps e i up 0 (λ f. s (sym f)) in omega (arith, at, forest i inside))
      (cases_eq e i)

  -- a label that numbers have in common with their new parents they have with the old ones
  pub halved_keeps : Keeps ps halved
  halved_keeps f h i inside =
      ⊎_elim
      (λ (s : e ≡ i). subst (λ k. f k ≡ f (get_or ps k 0)) s own)
      (λ (s : e ≢ i). h i (omega (arith, inside, length-set ps e up)) ∙ ap f (get_or-set_other ps e i up 0 (λ g. s (sym g))))
      (cases_eq e i)
    where
      parent : ℕ
      parent = get_or ps e 0

      parent_there : parent < length halved
      parent_there = omega (arith, forest e there, there, length-set ps e up)

      own : f e ≡ f parent
      own =
          ⊎_elim
          (λ (s : e ≡ parent). ap f s)
          (λ (s : e ≢ parent).
          h e (omega (arith, there, length-set ps e up)) ∙ ap f (get_or-set_same ps e up 0 there)
          ∙ sym (h parent parent_there ∙ ap f (get_or-set_other ps e parent up 0 (λ g. s (sym g)))))
          (cases_eq e parent)

  -- it is joined with its new parent
  pub halved_joined : AreJoined halved e up
  halved_joined f h = h e (omega (arith, there, length-set ps e up)) ∙ ap f (get_or-set_same ps e up 0 there)

  -- a root stays one
  pub halved_roots : (k : ℕ) → get_or ps k 0 ≡ k → get_or halved k 0 ≡ k
  halved_roots k root =
      ⊎_elim
      (λ (s : e ≡ k).
      let parent : get_or ps e 0 ≡ e = ap (λ j. get_or ps j 0) s ∙ root ∙ sym s in
      ap (get_or halved k) refl ∙ ap (λ j. get_or halved j 0) (sym s) ∙ get_or-set_same ps e up 0 there ∙ ap (λ j. get_or ps j 0) parent ∙ parent ∙ s)
      (λ (s : e ≢ k). get_or-set_other ps e k up 0 (λ f. s (sym f)) ∙ root)
      (cases_eq e k)

  -- once all before it stand directly below their roots, so does it
  pub flat_turn : ((j : ℕ) → j < e → get_or ps (get_or ps j 0) 0 ≡ get_or ps j 0) → (j : ℕ) → j < e + 1 → get_or halved (get_or halved j 0) 0 ≡ get_or halved j 0
  flat_turn flat j lt =
      ⊎_elim
      (λ (old : j < e).
      let here : get_or halved j 0 ≡ get_or ps j 0 = other j old in
      let above : get_or ps j 0 ≤ j = forest j (omega (arith, old, there)) in
      ap (λ k. get_or halved k 0) here ∙ other (get_or ps j 0) (omega (arith, above, old)) ∙ flat j old ∙ sym here)
      (λ (new : e ≤ j).
      let same : e ≡ j = omega (arith, new, lt) in
      subst (λ k. get_or halved (get_or halved k 0) 0 ≡ get_or halved k 0) same own)
      (cases_lt j e)
    where
      other : (k : ℕ) → k < e → get_or halved k 0 ≡ get_or ps k 0
      other k h = get_or-set_other ps e k up 0 (λ f. omega (arith, f, h))

      here_is : get_or halved e 0 ≡ up
      here_is = get_or-set_same ps e up 0 there

      own : get_or halved (get_or halved e 0) 0 ≡ get_or halved e 0
      own =
          ap (λ k. get_or halved k 0) here_is
          ∙ ⊎_elim
          (λ (low : get_or ps e 0 < e). other up (omega (arith, low, up_below)) ∙ flat (get_or ps e 0) low)
          (λ (high : e ≤ get_or ps e 0).
          let root : get_or ps e 0 ≡ e = omega (arith, high, forest e there) in
          let up_is : up ≡ e = ap (λ k. get_or ps k 0) root ∙ root in
          ap (λ k. get_or halved k 0) up_is ∙ here_is)
          (cases_lt (get_or ps e 0) e)
          ∙ sym here_is

-- ---- one root below another

module _ (ps : List ℕ) (x y : ℕ) (there : y < length ps) (forest : IsForest ps) (below : x ≤ y) (root : get_or ps y 0 ≡ y) where
  abbrev linked : List ℕ
  linked = slice_set ps y x

  pub linked_forest : IsForest linked
  linked_forest i h =
      let inside : i < length ps = omega (arith, h, length-set ps y x) in
      ⊎_elim
      (λ (s : y ≡ i). subst (λ k. get_or linked k 0 ≤ k) s (let at = get_or-set_same ps y x 0 there in omega (arith, at, below)))
      (λ (s : y ≢ i). let at = get_or-set_other ps y i x 0 (λ f. s (sym f)) in omega (arith, at, forest i inside))
      (cases_eq y i)

  pub linked_keeps : Keeps ps linked
  linked_keeps f h i inside =
      ⊎_elim
      (λ (s : y ≡ i). subst (λ k. f k ≡ f (get_or ps k 0)) s (ap f (sym root)))
      (λ (s : y ≢ i). h i (omega (arith, inside, length-set ps y x)) ∙ ap f (get_or-set_other ps y i x 0 (λ g. s (sym g))))
      (cases_eq y i)

  pub linked_joined : AreJoined linked y x
  linked_joined f h = h y (omega (arith, there, length-set ps y x)) ∙ ap f (get_or-set_same ps y x 0 there)
