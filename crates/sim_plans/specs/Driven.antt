-- The signals that statements drive, each at least once.
use Rattle.std.specs.Prelude.{◌≡◌, ℕ, ◌<◌, List, [], ◌++◌, map, length, slice_index_or}
use Rattle.design_ir.specs.declared.ids.SigId.{SigId}
use Rattle.design_ir.specs.Circuits.{is_among}
use Rattle.design_ir.specs.Pools.{Pooled}
use Rattle.design_ir.specs.Targets.{target_signals}
use Rattle.design_ir.specs.Trees.{Statement, assign, choose, Choices, none, arm, Block, done, next}

abbrev pub numbers_of : List SigId → List ℕ
numbers_of ss = map (λ (s : SigId). s.0) ss

-- the same numbers are among both
abbrev pub IsLike : List ℕ → List ℕ → Type 0
IsLike xs ys = (s : ℕ) → is_among xs s ≡ is_among ys s

-- the signals of which the first so many expressions are parts, as far as they are targets
pub record AreTargets (p : Pooled) (n : ℕ) (targets : List (List SigId)) : Type 0 where
  pub count : length targets ≡ n
  pub each : (k : ℕ) → k < n → IsLike (numbers_of (slice_index_or targets k [])) (target_signals p k)

-- what each target of statements stands for, one after another
abbrev mutual
  pub statement_listed : {A : Type 0} → (ℕ → List A) → Statement → List A
  statement_listed of (assign target value place) = of target.0
  statement_listed of (choose arms) = choices_listed of arms

  pub choices_listed : {A : Type 0} → (ℕ → List A) → Choices → List A
  choices_listed of none = []
  choices_listed of (arm condition body others) = listed of body ++ choices_listed of others

  pub listed : {A : Type 0} → (ℕ → List A) → Block → List A
  listed of done = []
  listed of (next s rest) = statement_listed of s ++ listed of rest
