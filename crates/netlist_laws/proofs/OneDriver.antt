-- A signal that one process alone drives, or none: what the processes leave of its number, one after another.
use Rattle.std.specs.Prelude.{◌≡◌, refl, ℕ, ◌==◌, ◌&&◌, ◌||◌, Bool, true, false, cond, List, [], ◌∷◌, ◌++◌, map, length, ℤ, Some, None, is_some, fold}
use Rattle.std.specs.List.{AllByRecursion, IsDistinct, list_any, find}
use Rattle.std.proofs.Common.{sym, ◌∙◌, ap, subst, ⊎_elim}
use Rattle.std.proofs.lemmas.Bool.{false≢true, or_parts, or_cases, or_from, and_right, eqb-true}
use Rattle.std.proofs.lemmas.Map.Keys.{IsDistinct-head, IsDistinct-tail}
use Rattle.design_ir.specs.declared.process.DesignProcess.{DesignProcess}
use Rattle.design_ir.specs.Circuits.{at, is_among}
use Rattle.design_ir.specs.Designs.{share}
use Rattle.design_ir.proofs.GuardLaws.{fold_append}

-- ---- processes, by the signals that each drives

module _ (f : DesignProcess → List ℕ) (s : ℕ) where
  -- none of these drives the signal
  abbrev pub AreNone : List DesignProcess → Type 0
  AreNone ps = AllByRecursion (λ (p : DesignProcess). is_among (f p) s ≡ false) ps

  -- this one alone does
  pub record IsOnly (ps : List DesignProcess) (p : DesignProcess) : Type 0 where
    pub before : List DesignProcess
    pub after : List DesignProcess
    pub split : ps ≡ before ++ p ∷ after
    pub here : is_among (f p) s ≡ true
    pub none_before : AreNone before
    pub none_after : AreNone after

  not_shared : (xs ys : List ℕ) → share xs ys ≡ false → is_among xs s ≡ true → is_among ys s ≡ false
  not_shared [] ys e h = absurd (false≢true h)
  not_shared (x ∷ xs) ys e h =
      let parts = or_parts (is_among ys x) (share xs ys) e in
      ⊎_elim (λ (same : (x == s) ≡ true). ap (is_among ys) (sym (eqb-true x s same)) ∙ parts.0) (λ (more : is_among xs s ≡ true). not_shared xs ys parts.1 more) (or_cases (x == s) (is_among xs s) h)

  none_shared : (xs : List ℕ) (ps : List DesignProcess) → is_among xs s ≡ true → AllByRecursion (λ ys. share xs ys ≡ false) (map f ps) → AreNone ps
  none_shared xs [] h e = tt
  none_shared xs (p ∷ ps) h e = (not_shared xs (f p) e.0 h, none_shared xs ps h e.1)

  pub find_only : (ps : List DesignProcess) (p : DesignProcess) → IsDistinct share (map f ps) → find (λ (q : DesignProcess). is_among (f q) s) ps ≡ Some p → IsOnly ps p
  find_only [] p d e = cc
  find_only (q ∷ ps) p d e = first (is_among (f q) s) refl e (λ k. find_only ps p (IsDistinct-tail share (f q) (map f ps) d) k)
    where
      first : (t : Bool) → is_among (f q) s ≡ t → cond t (Some q) (find (λ (x : DesignProcess). is_among (f x) s) ps) ≡ Some p
          → (find (λ (x : DesignProcess). is_among (f x) s) ps ≡ Some p → IsOnly ps p) → IsOnly (q ∷ ps) p
      first true here e others =
          let same : q ≡ p = cc in
          record {
            before = [];
            after = ps;
            split = ap (λ x. x ∷ ps) same;
            here = ap (λ (x : DesignProcess). is_among (f x) s) (sym same) ∙ here;
            none_before = tt;
            none_after = none_shared (f q) ps here (IsDistinct-head share (f q) (map f ps) d);
          }
      first false here e others =
          let r = others e in
          record { before = q ∷ r.before; after = r.after; split = ap (λ xs. q ∷ xs) r.split; here = r.here; none_before = (here, r.none_before); none_after = r.none_after }

  pub find_none : (ps : List DesignProcess) → find (λ (q : DesignProcess). is_among (f q) s) ps ≡ None → AreNone ps
  find_none [] e = tt
  find_none (q ∷ ps) e = first (is_among (f q) s) refl e (λ k. find_none ps k)
    where
      first : (t : Bool) → is_among (f q) s ≡ t → cond t (Some q) (find (λ (x : DesignProcess). is_among (f x) s) ps) ≡ None
          → (find (λ (x : DesignProcess). is_among (f x) s) ps ≡ None → AreNone ps) → AreNone (q ∷ ps)
      first true here e others = cc
      first false here e others = (here, others e)

  -- ---- whether a process that passes a test drives the signal

  module _ (g : DesignProcess → Bool) where
    abbrev tests_it : DesignProcess → Bool
    tests_it p = g p && is_among (f p) s

    pub none_test : (ps : List DesignProcess) → AreNone ps → list_any tests_it ps ≡ false
    none_test [] h = refl
    none_test (p ∷ ps) h = or_from (tests_it p) (list_any tests_it ps) (and_right (g p) (is_among (f p) s) h.0) (none_test ps h.1)

    split_test : (before after : List DesignProcess) (p : DesignProcess) → AreNone before → AreNone after → is_among (f p) s ≡ true → list_any tests_it (before ++ p ∷ after) ≡ g p
    split_test [] after p h k e =
        ap (λ t. (g p && t) || list_any tests_it after) e ∙ ap (λ t. (g p && true) || t) (none_test after k) ∙ whether (g p)
      where
        whether : (b : Bool) → ((b && true) || false) ≡ b
        whether true = refl
        whether false = refl
    split_test (q ∷ before) after p h k e =
        ap (λ t. t || list_any tests_it (before ++ p ∷ after)) (and_right (g q) (is_among (f q) s) h.0) ∙ split_test before after p h.1 k e

    pub only_test : (ps : List DesignProcess) (p : DesignProcess) → IsOnly ps p → list_any tests_it ps ≡ g p
    only_test ps p o = ap (list_any tests_it) o.split ∙ split_test o.before o.after p o.none_before o.none_after o.here

  abbrev pub clocks_it : DesignProcess → Bool
  clocks_it p = is_some p.domain && is_among (f p) s

  pub none_clock : (ps : List DesignProcess) → AreNone ps → list_any clocks_it ps ≡ false
  none_clock ps h = none_test (λ p. is_some p.domain) ps h

  pub only_clock : (ps : List DesignProcess) (p : DesignProcess) → IsOnly ps p → list_any clocks_it ps ≡ is_some p.domain
  only_clock ps p o = only_test (λ p. is_some p.domain) ps p o

  -- ---- a fold over processes, each of which leaves alone what it does not drive

  module _ (g : List ℤ → DesignProcess → List ℤ) (count : (cur : List ℤ) (p : DesignProcess) → length (g cur p) ≡ length cur) (others : (cur : List ℤ) (p : DesignProcess) → is_among (f p) s ≡ false → at (g cur p) s ≡ at cur s) where
    pub length-fold : (ps : List DesignProcess) (cur : List ℤ) → length (fold g cur ps) ≡ length cur
    length-fold [] cur = refl
    length-fold (p ∷ ps) cur = length-fold ps (g cur p) ∙ count cur p

    pub fold_none : (ps : List DesignProcess) (cur : List ℤ) → AreNone ps → at (fold g cur ps) s ≡ at cur s
    fold_none [] cur h = refl
    fold_none (p ∷ ps) cur h = fold_none ps (g cur p) h.1 ∙ others cur p h.0

    -- what stands before the process that drives the signal
    pub record IsFolded (ps : List DesignProcess) (p : DesignProcess) (cur : List ℤ) : Type 0 where
      pub then : List ℤ
      pub same : at then s ≡ at cur s
      pub long : length then ≡ length cur
      pub result : at (fold g cur ps) s ≡ at (g then p) s

    pub fold_only : (ps : List DesignProcess) (p : DesignProcess) (cur : List ℤ) → IsOnly ps p → IsFolded ps p cur
    fold_only ps p cur o =
        let mid : List ℤ = fold g cur o.before in
        record {
          then = mid;
          same = fold_none o.before cur o.none_before;
          long = length-fold o.before cur;
          result = ap (λ xs. at (fold g cur xs) s) o.split ∙ ap (λ ys. at ys s) (fold_append g cur o.before (p ∷ o.after)) ∙ fold_none o.after (g mid p) o.none_after;
        }

-- ---- a fact of each process holds of the one

split_holds : (P : DesignProcess → Type 0) (before after : List DesignProcess) (p : DesignProcess) → AllByRecursion P (before ++ p ∷ after) → P p
split_holds P [] after p h = h.0
split_holds P (q ∷ before) after p h = split_holds P before after p h.1

pub only_holds : (P : DesignProcess → Type 0) (f : DesignProcess → List ℕ) (s : ℕ) (ps : List DesignProcess) (p : DesignProcess) → IsOnly f s ps p → AllByRecursion P ps → P p
only_holds P f s ps p o h = split_holds P o.before o.after p (subst (AllByRecursion P) o.split h)
