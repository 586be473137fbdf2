-- What has to hold before statements are carried out on slots.
use Rattle.std.specs.Prelude.{ℕ, Bool, IsTrue, List, ℤ, Option}
use Rattle.std.specs.List.{list_all, flat_map, AllByRecursion}
use Rattle.design_ir.specs.declared.ids.ExprId.{ExprId}
use Rattle.design_ir.specs.Pools.{Pooled}
use Rattle.design_ir.specs.PoolRules.{IsPool}
use Rattle.design_ir.specs.Targets.{Bit, is_target, target_signals}
use Rattle.design_ir.specs.Needed.{needed_whole}
use Rattle.design_ir.specs.Guards.{Guard, Guarded}
use Rattle.design_ir.specs.GuardedPut.{holds}
use Rattle.design_ir.specs.Circuits.{is_among}
use Rattle.flat_design.specs.declared.sources.Source.{Source}
use Rattle.flat_design.specs.Growing.{IsReadable}
use Rattle.flat_design.specs.Activity.{IsActive}
use Rattle.flat_design.specs.Shown.{SoFar, AreSlots}

-- all guards hold, and what they need
abbrev pub all_hold : Pooled → List Guard → List ℤ → Bool
all_hold p gs env = list_all (holds p env) gs

abbrev pub all_need : Pooled → List Guard → List Bit
all_need p gs = flat_map (λ (g : Guard). needed_whole p g.condition) gs

-- an assignment to a target of signals that are driven
pub record IsOwn (p : Pooled) (driven : List ℕ) (g : Guarded) : Type 0 where
  pub target : IsTrue (is_target p g.target.0)
  pub signals : AllByRecursion (λ s. IsTrue (is_among driven s)) (target_signals p g.target.0)

-- the slots stand for what the process has left, the activity for the guards, and what comes next reads these expressions
-- and makes these assignments
pub record IsBegun (t : SoFar) (gs : List Guard) (q : Pooled) (slots : List (List Source)) (active : Option ExprId) (exprs : List ExprId) (assignments : List Guarded) : Type 0 where
  pub rules : IsPool t.pool
  pub shown : AreSlots t q slots
  pub taken : IsActive q (all_hold t.pool gs) (all_need t.pool gs) active
  pub readable : AllByRecursion (IsReadable t.pool) exprs
  pub own : AllByRecursion (IsOwn t.pool t.driven) assignments
