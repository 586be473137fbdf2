-- What is proved of ranked designs.
use Rattle.std.specs.Prelude.{◌≡◌, ℕ, zero, suc, ◌≤◌, ⊤, List, [], ◌∷◌, length, ℤ}
use Rattle.std.specs.List.{AllByRecursion}
use Rattle.amh_bits.specs.Patterns.{IsOf}
use Rattle.design_ir.specs.declared.memory.Memory.{Memory}
use Rattle.design_ir.specs.PoolRules.{IsPool}
use Rattle.design_ir.specs.Targets.{Bit}
use Rattle.design_ir.specs.Circuits.{Circuit, State}
use Rattle.design_ir.specs.Designs.{IsDesign}
use Rattle.design_ir.specs.declared.event.Event.{Event}
use Rattle.design_ir.specs.Settled.{delta, Settled}
use Rattle.design_ir.specs.Histories.{History, Deltas}
use Rattle.design_ir.specs.Steps.{step}
use Rattle.design_ir.specs.Legal.{IsLegal, AllLegal}
use Rattle.design_ir.specs.Loops.{Loop}
use Rattle.design_ir.proofs.NumbersFit.{FitsSignals}
use Rattle.comb_graph.specs.Orders.{IsOrder, IsLongest}

-- where bits have an order, none needs itself
abbrev pub OrderedHaveNoLoop : Type 0
OrderedHaveNoLoop = (c : Circuit) (order : List Bit) → IsOrder c order → (b : Bit) → Loop c b → ⊥

-- each row of each memory is of the memory's shape
abbrev pub FitsRows : List Memory → List (List ℤ) → Type 0
FitsRows [] rows = ⊤
FitsRows (m ∷ ms) [] = ⊤
FitsRows (m ∷ ms) (rows ∷ more) = AllByRecursion (IsOf m.shape.signed m.shape.width) rows × FitsRows ms more

-- a state's numbers and rows are of their shapes
pub record FitsState (c : Circuit) (st : State) : Type 0 where
  pub held : FitsSignals c.pool st.held
  pub rows : FitsRows c.memories st.rows

-- exactly one environment is settled in a state
pub record SettlesOnce (c : Circuit) (st : State) : Type 0 where
  pub env : List ℤ
  pub settled : Settled c st env
  pub fits : FitsSignals c.pool env
  pub only : (other : List ℤ) → Settled c st other → other ≡ env

-- where bits have an order, the equations of a design have exactly one solution, in every such state
abbrev pub OrderedSettleOnce : Type 0
OrderedSettleOnce =
    (c : Circuit) (order : List Bit) → IsPool c.pool → IsDesign c → IsOrder c order → (st : State) → FitsState c st → SettlesOnce c st

-- exactly one list of settled environments for these events
pub record HasOneHistory (c : Circuit) (events : List Event) : Type 0 where
  pub envs : List (List ℤ)
  pub settles : History c events envs
  pub fits : AllByRecursion (FitsSignals c.pool) envs
  pub only : (others : List (List ℤ)) → History c events others → others ≡ envs

-- where bits have an order, a design has exactly one history, whatever legal events come
abbrev pub OrderedHaveOneHistory : Type 0
OrderedHaveOneHistory =
    (c : Circuit) (order : List Bit) → IsPool c.pool → IsDesign c → IsOrder c order → (events : List Event) → AllLegal c events → HasOneHistory c events

-- so many rounds, in each of which every comb signal and comb read is computed at once
abbrev pub rounds : Circuit → State → ℕ → List ℤ → List ℤ
rounds c st zero env = env
rounds c st (suc n) env = delta c st (rounds c st n env)

-- whatever numbers they begin with, rounds settle a state: one more is enough than there are bits on the longest chain of needs
abbrev pub RoundsSettle : Type 0
RoundsSettle =
    (c : Circuit) (longest : ℕ) → IsPool c.pool → IsDesign c → IsLongest c longest → (st : State) → FitsState c st → (env : List ℤ) → Settled c st (rounds c st (suc longest) env)

-- the deltas from this environment on to the one settled in a state: one list, with at most so many that change something
pub record HasDeltas (c : Circuit) (st : State) (env : List ℤ) (most : ℕ) : Type 0 where
  pub deltas : List (List ℤ)
  pub are : Deltas c st env deltas
  pub few : length deltas ≤ suc most
  pub only : (others : List (List ℤ)) → Deltas c st env others → others ≡ deltas

-- no more deltas change something after an event than there are bits on the longest chain of needs
abbrev pub DeltasAreFew : Type 0
DeltasAreFew =
    (c : Circuit) (longest : ℕ) → IsPool c.pool → IsDesign c → IsLongest c longest → (st : State) (env : List ℤ) (e : Event) → FitsState c st → Settled c st env → IsLegal c e
    → HasDeltas c (step c st env e) env longest
