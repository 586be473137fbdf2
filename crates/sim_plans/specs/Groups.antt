-- Statements in groups, such that no signal is driven by two groups.
use Rattle.std.specs.Prelude.{◌≡◌, ℕ, ◌<◌, ◌≤◌, ◌==◌, Bool, true, false, ⊤, List, [], ◌∷◌, length, slice_index_or}
use Rattle.std.specs.List.{AllByRecursion, filter, range_with_len}
use Rattle.design_ir.specs.declared.ids.SigId.{SigId}
use Rattle.design_ir.specs.Circuits.{is_among}
use Rattle.design_ir.specs.Guards.{driven}
use Rattle.design_ir.specs.Pools.{Pooled}
use Rattle.design_ir.specs.Trees.{Block, statements}
use Rattle.sim_plans.specs.Driven.{numbers_of}
use Rattle.sim_plans.specs.Tasks.{picked}

-- ---- some statements of a block

-- a statement of a block drives the signal
abbrev pub drives_at : Pooled → Block → ℕ → ℕ → Bool
drives_at p b i s = is_among (driven p (picked b (i ∷ []))) s

-- each number is below those behind it
abbrev pub IsAscending : List ℕ → Type 0
IsAscending [] = ⊤
IsAscending (i ∷ is) = AllByRecursion (λ j. i < j) is × IsAscending is

-- statements of a block in order, with all that drive a signal which one of them drives
pub record IsApart (p : Pooled) (b : Block) (is : List ℕ) : Type 0 where
  pub inside : AllByRecursion (λ i. i < length (statements b)) is
  pub ascends : IsAscending is
  pub alone : (i s : ℕ) → i < length (statements b) → drives_at p b i s ≡ true → is_among (driven p (picked b is)) s ≡ true → is_among is i ≡ true

-- none of these is among those
abbrev pub AreOthers : List ℕ → List ℕ → Type 0
AreOthers gone is = (i : ℕ) → is_among gone i ≡ true → is_among is i ≡ false

-- ---- labels

-- the signals that a statement drives
abbrev pub drives_of : List (List SigId) → ℕ → List ℕ
drives_of drives i = numbers_of (slice_index_or drives i [])

-- the label of a statement
abbrev pub label_of : List ℕ → ℕ → ℕ
label_of labels i = slice_index_or labels i 0

-- statements that drive a common signal have the same label
pub record AreLabels (drives : List (List SigId)) (labels : List ℕ) : Type 0 where
  pub count : length labels ≡ length drives
  pub below : (i : ℕ) → i < length labels → label_of labels i < length labels
  pub same : (i j s : ℕ) → i < length drives → j < length drives → is_among (drives_of drives i) s ≡ true → is_among (drives_of drives j) s ≡ true → label_of labels i ≡ label_of labels j

-- the statements with a label, in order
abbrev pub members : List ℕ → ℕ → List ℕ
members labels l = filter (λ i. label_of labels i == l) (range_with_len 0 (length labels))

-- for each label its statements
pub record AreMembers (labels : List ℕ) (groups : List (List ℕ)) : Type 0 where
  pub count : length groups ≡ length labels
  pub each : (l : ℕ) → l < length labels → slice_index_or groups l [] ≡ members labels l

-- statements in groups by their labels
pub record AreGroups (drives : List (List SigId)) (groups : List (List ℕ)) : Type 0 where
  pub labels : List ℕ
  pub are_labels : AreLabels drives labels
  pub are_members : AreMembers labels groups

-- ---- a forest

-- each number stands below its parent or is one itself
abbrev pub IsForest : List ℕ → Type 0
IsForest parents = (i : ℕ) → i < length parents → slice_index_or parents i 0 ≤ i

-- a label that each number has in common with its parent
abbrev pub Respects : (ℕ → ℕ) → List ℕ → Type 0
Respects f parents = (i : ℕ) → i < length parents → f i ≡ f (slice_index_or parents i 0)

-- numbers that no such label tells apart
abbrev pub AreJoined : List ℕ → ℕ → ℕ → Type 0
AreJoined parents i j = (f : ℕ → ℕ) → Respects f parents → f i ≡ f j

-- what was joined still is
abbrev pub Keeps : List ℕ → List ℕ → Type 0
Keeps old new = (f : ℕ → ℕ) → Respects f new → Respects f old

-- for each signal that one of the first so many statements drives a statement is noted
abbrev pub AreNoted : List (List SigId) → ℕ → List ℕ → Type 0
AreNoted drives n noted = (i s : ℕ) → i < n → is_among (drives_of drives i) s ≡ true → slice_index_or noted s 0 < length drives
