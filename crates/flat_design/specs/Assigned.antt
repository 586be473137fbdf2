-- Assignments of slots to whole signals.
use Rattle.std.specs.Prelude.{◌≡◌, ℕ, ◌<◌, ◌≤◌, Bool, false, List, [], ◌∷◌, All, Contains, length, slice_get, slice_index_or, ℤ, Some}
use Rattle.amh_bits.specs.Patterns.{pattern, nat_bit}
use Rattle.design_ir.specs.declared.ids.ExprId.{ExprId}
use Rattle.design_ir.specs.declared.ids.SigId.{SigId}
use Rattle.design_ir.specs.declared.expr.Expr.TheVariants.{Sig}
use Rattle.design_ir.specs.Pools.{Pooled}
use Rattle.design_ir.specs.PoolRules.{IsPool}
use Rattle.design_ir.specs.Values.{signal_form}
use Rattle.design_ir.specs.Trees.{assign, choose, Block, done, next}
use Rattle.flat_design.specs.declared.sources.Source.{Source}
use Rattle.flat_design.specs.Growing.{IsReadable}
use Rattle.flat_design.specs.Sources.{IsSource, IsJoined, source_bit, source_needs}
use Rattle.flat_design.specs.Shown.{SoFar, start_number}

-- the target is the signal, and the value has the bits of its slot
pub record IsAssigned (q : Pooled) (slots : List (List Source)) (s : SigId) (target value : ExprId) : Type 0 where
  pub signal : slice_get q.exprs target.0 ≡ Some (Sig s)
  pub readable : IsReadable q target
  pub sources : All (IsSource q) (slice_index_or slots s.0 [])
  pub joined : IsJoined q (slice_index_or slots s.0 []) value

-- an assignment for each of these signals
abbrev pub AreAssigned : Pooled → List (List Source) → List SigId → Block → Type 0
AreAssigned q slots [] done = Unit {0}
AreAssigned q slots (s ∷ ss) (next (assign target value place) rest) = IsAssigned q slots s target value × AreAssigned q slots ss rest
AreAssigned q slots (s ∷ ss) (next (choose arms) rest) = ⊥
AreAssigned q slots [] (next s rest) = ⊥
AreAssigned q slots (s ∷ ss) done = ⊥

-- ---- before any statement

-- the process before its first statement
abbrev pub begins : Pooled → Bool → List ℕ → SoFar
begins p clocked driven = record { pool = p; clocked = clocked; driven = driven; behind = λ env cur. cur; done = [] }

-- the sources of a signal's own number, or of its init
pub record IsStart (p q : Pooled) (clocked : Bool) (s : ℕ) (xs : List Source) : Type 0 where
  pub size : length xs ≡ (signal_form p.signals s).width
  pub sources : All (IsSource q) xs
  pub bits : (env : List ℤ) (i : ℕ) (x : Source) → slice_get xs i ≡ Some x → source_bit q env x ≡ nat_bit (pattern (signal_form p.signals s).width (start_number p clocked env s)) i
  pub needs : clocked ≡ false → (i : ℕ) (x : Source) → slice_get xs i ≡ Some x → source_needs q x ≡ []

-- the signals are the pool's, and have slots of sources
pub record AreReady (q : Pooled) (slots : List (List Source)) (ss : List SigId) : Type 0 where
  pub rules : IsPool q
  pub size : length slots ≡ length q.signals
  pub there : All (λ (s : SigId). s.0 < length q.signals) ss
  pub few : (s : SigId) → Contains ss s → length (slice_index_or slots s.0 []) ≤ 128
  pub sources : (s : SigId) → Contains ss s → All (IsSource q) (slice_index_or slots s.0 [])
