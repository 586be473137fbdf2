-- A round over flat processes leaves what one over the other processes leaves, where each finds its signals as they start.
use Rattle.std.specs.Prelude.{◌≡◌, refl, ℕ, ◌&&◌, ◌||◌, ◌==◌, Bool, true, false, List, [], ◌∷◌, ◌++◌, map, length, fold, ℤ, Contains}
use Rattle.std.specs.List.{list_any, AllByRecursion, IsDistinct}
use Rattle.std.proofs.Common.{sym, ◌∙◌, ap, ⊎_elim}
use Rattle.std.proofs.lemmas.Bool.{false≢true, or_parts, or_cases, eqb-true, cases_Bool}
use Rattle.std.proofs.lemmas.List.Elements.{Contains-append_left}
use Rattle.std.proofs.lemmas.Map.Keys.{IsDistinct-tail, IsDistinct-head}
use Rattle.design_ir.specs.declared.process.DesignProcess.{DesignProcess}
use Rattle.design_ir.specs.Pools.{Pooled}
use Rattle.design_ir.specs.Guards.{driven}
use Rattle.design_ir.specs.Designs.{IsProcess, share}
use Rattle.design_ir.specs.Circuits.{Circuit, at, is_among, FitsSignals}
use Rattle.design_ir.proofs.Elements.{contains_first, contains_more, contains_cases, contains_none, map_has}
use Rattle.flat_design.specs.Flat.{IsFlatProcess, AreFlatProcesses}
use Rattle.flat_design.proofs.FlatOrders.{all_of}

-- ---- a signal is driven once

module _ (s : ℕ) where
  pub not_shared : (xs ys : List ℕ) → share xs ys ≡ false → is_among xs s ≡ true → is_among ys s ≡ false
  not_shared [] ys e h = absurd (false≢true h)
  not_shared (x ∷ xs) ys e h =
      let parts = or_parts (is_among ys x) (share xs ys) e in
      ⊎_elim (λ (same : (x == s) ≡ true). ap (is_among ys) (sym (eqb-true x s same)) ∙ parts.0) (λ (more : is_among xs s ≡ true). not_shared xs ys parts.1 more) (or_cases (x == s) (is_among xs s) h)

  not_before : (xs ys : List ℕ) → share xs ys ≡ false → is_among ys s ≡ true → is_among xs s ≡ false
  not_before xs ys e h = ⊎_elim (λ (t : is_among xs s ≡ true). absurd (false≢true (sym (not_shared xs ys e t) ∙ h))) (λ (t : is_among xs s ≡ false). t) (cases_Bool (is_among xs s))

  and_false : (b : Bool) → (b && false) ≡ false
  and_false true = refl
  and_false false = refl

  -- none of these lists has it
  abbrev pub has_it : List ℕ → Bool
  has_it xs = is_among xs s

  none_shared : (xs : List ℕ) (lists : List (List ℕ)) → is_among xs s ≡ true → AllByRecursion (λ ys. share xs ys ≡ false) lists → list_any has_it lists ≡ false
  none_shared xs [] h e = refl
  none_shared xs (ys ∷ lists) h e = ap (λ b. b || list_any has_it lists) (not_shared xs ys e.0 h) ∙ none_shared xs lists h e.1

  any_append : (xs ys : List (List ℕ)) → list_any has_it (xs ++ ys) ≡ (list_any has_it xs || list_any has_it ys)
  any_append [] ys = refl
  any_append (x ∷ xs) ys = ap (λ b. has_it x || b) (any_append xs ys) ∙ or_assoc (has_it x) (list_any has_it xs) (list_any has_it ys)
    where
      or_assoc : (a b c : Bool) → (a || (b || c)) ≡ ((a || b) || c)
      or_assoc true b c = refl
      or_assoc false b c = refl

  module _ {A : Type 0} (f : A → List ℕ) where
    none_kind : (kind : A → Bool) (xs : List A) → list_any has_it (map f xs) ≡ false → list_any (λ x. kind x && is_among (f x) s) xs ≡ false
    none_kind kind [] e = refl
    none_kind kind (x ∷ xs) e =
        let parts = or_parts (has_it (f x)) (list_any has_it (map f xs)) e in
        ap (λ b. (kind x && b) || list_any (λ y. kind y && is_among (f y) s) xs) parts.0 ∙ ap (λ b. b || list_any (λ y. kind y && is_among (f y) s) xs) (and_false (kind x)) ∙ none_kind kind xs parts.1

    -- where one of another kind has it, none of this kind does, and no other list
    pub record IsAlone (kind : A → Bool) (xs : List A) (others : List (List ℕ)) : Type 0 where
      pub kinds : list_any (λ x. kind x && is_among (f x) s) xs ≡ false
      pub rest : list_any has_it others ≡ false

    pub alone : (kind : A → Bool) (xs : List A) (others : List (List ℕ)) (x : A) → IsDistinct share (map f xs ++ others) → Contains xs x → is_among (f x) s ≡ true → kind x ≡ false → IsAlone kind xs others
    alone kind [] others x d c h e = absurd (contains_none x c)
    alone kind (y ∷ xs) others x d c h e =
        ⊎_elim
        (λ (same : y ≡ x).
        let here : is_among (f y) s ≡ true = ap (λ (z : A). is_among (f z) s) same ∙ h in
        let none = none_shared (f y) (map f xs ++ others) here (IsDistinct-head share (f y) (map f xs ++ others) d) in
        let parts = or_parts (list_any has_it (map f xs)) (list_any has_it others) (sym (any_append (map f xs) others) ∙ none) in
        record {
          kinds = ap (λ b. (b && is_among (f y) s) || list_any (λ z. kind z && is_among (f z) s) xs) (ap kind same ∙ e) ∙ none_kind kind xs parts.0;
          rest = parts.1;
        })
        (λ (t : Contains xs x).
        let r = alone kind xs others x (IsDistinct-tail share (f y) (map f xs ++ others) d) t h e in
        let apart : share (f y) (f x) ≡ false = all_of (λ ys. share (f y) ys ≡ false) (map f xs ++ others) (f x) (IsDistinct-head share (f y) (map f xs ++ others) d) (Contains-append_left (map f xs) others (f x) (map_has f xs x t)) in
        record { kinds = ap (λ b. (kind y && b) || list_any (λ z. kind z && is_among (f z) s) xs) (not_before (f y) (f x) apart h) ∙ ap (λ b. b || list_any (λ z. kind z && is_among (f z) s) xs) (and_false (kind y)) ∙ r.kinds; rest = r.rest })
        (contains_cases y x xs c)

-- ---- one round over processes after another

-- where each process finds the signals that it drives, and what it leaves
module _ (c : Circuit) (q : Pooled) (f g : List ℤ → DesignProcess → List ℤ) (kind : DesignProcess → Bool) (start : ℕ → ℤ) where
  -- the signals that a process of the kind drives are as they start
  abbrev pub IsStart : List ℤ → DesignProcess → Type 0
  IsStart cur p = kind p ≡ true → (s : ℕ) → is_among (driven c.pool p.body) s ≡ true → at cur s ≡ start s

  pub record IsTurn : Type 0 where
    pub fits : (cur : List ℤ) (p : DesignProcess) → IsProcess c p → FitsSignals c.pool cur → FitsSignals c.pool (f cur p)
    pub long : (cur : List ℤ) (p : DesignProcess) → length (f cur p) ≡ length cur
    pub others : (cur : List ℤ) (p : DesignProcess) (s : ℕ) → is_among (driven c.pool p.body) s ≡ false → at (f cur p) s ≡ at cur s
    pub same : (cur : List ℤ) (old new : DesignProcess) → IsFlatProcess c.pool q old new → FitsSignals c.pool cur → length cur ≡ length c.pool.signals → IsStart cur old → g cur new ≡ f cur old

  -- what is driven behind a process is not driven by it
  starts_still : IsTurn → (o : DesignProcess) (olds : List DesignProcess) (cur : List ℤ) → AllByRecursion (λ ys. share (driven c.pool o.body) ys ≡ false) (map (λ (p : DesignProcess). driven c.pool p.body) olds)
      → (p : DesignProcess) → Contains olds p → IsStart cur p → IsStart (f cur o) p
  starts_still turn o olds cur apart p c-p starts k s here =
      turn.others cur o s (not_before s (driven c.pool o.body) (driven c.pool p.body) (all_of (λ ys. share (driven c.pool o.body) ys ≡ false) (map (λ (x : DesignProcess). driven c.pool x.body) olds) (driven c.pool p.body) apart (map_has (λ (x : DesignProcess). driven c.pool x.body) olds p c-p)) here)
      ∙ starts k s here

  pub rounds_same : IsTurn → (olds news : List DesignProcess) (cur : List ℤ) → AreFlatProcesses c.pool q olds news → AllByRecursion (IsProcess c) olds → IsDistinct share (map (λ (p : DesignProcess). driven c.pool p.body) olds)
      → FitsSignals c.pool cur → length cur ≡ length c.pool.signals → ((p : DesignProcess) → Contains olds p → IsStart cur p) → fold g cur news ≡ fold f cur olds
  rounds_same turn [] [] cur are processes distinct fit long starts = refl
  rounds_same turn [] (n ∷ news) cur are processes distinct fit long starts = absurd are
  rounds_same turn (o ∷ olds) [] cur are processes distinct fit long starts = absurd are
  rounds_same turn (o ∷ olds) (n ∷ news) cur are processes distinct fit long starts =
      let apart = IsDistinct-head share (driven c.pool o.body) (map (λ (p : DesignProcess). driven c.pool p.body) olds) distinct in
      ap (λ x. fold g x news) (turn.same cur o n are.0 fit long (starts o (contains_first o olds)))
      ∙ rounds_same turn olds news (f cur o) are.1 processes.1 (IsDistinct-tail share (driven c.pool o.body) (map (λ (p : DesignProcess). driven c.pool p.body) olds) distinct) (turn.fits cur o processes.0 fit) (turn.long cur o ∙ long)
      (λ p among. starts_still turn o olds cur apart p among (starts p (contains_more o olds p among)))
