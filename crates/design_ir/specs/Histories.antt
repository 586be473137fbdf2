-- The settled environments over a list of events.
use Rattle.std.specs.Prelude.{◌≡◌, ◌≢◌, ℕ, suc, if◌then◌else◌, List, [], ◌∷◌, ◌++◌, ℤ}
use Rattle.design_ir.specs.declared.event.Event.{Event}
use Rattle.design_ir.specs.Circuits.{Circuit, State, at, is_held}
use Rattle.design_ir.specs.Settled.{delta, Settled}
use Rattle.design_ir.specs.Steps.{step, first_state}

-- settled environments from a state on: before the first event, and after each one
abbrev pub HistoryFrom : Circuit → State → List Event → List (List ℤ) → Type 0
HistoryFrom c st [] (env ∷ []) = Settled c st env
HistoryFrom c st (e ∷ es) (env ∷ envs) = Settled c st env × HistoryFrom c (step c st env e) es envs
HistoryFrom c st [] [] = ⊥
HistoryFrom c st [] (env ∷ more ∷ envs) = ⊥
HistoryFrom c st (e ∷ es) [] = ⊥

abbrev pub History : Circuit → List Event → List (List ℤ) → Type 0
History c es envs = HistoryFrom c (first_state c) es envs

-- after these events the design can be in this state, with this settled environment
pub data Reaches (c : Circuit) : List Event → State → List ℤ → Type 0 where
  start : (env : List ℤ) → Settled c (first_state c) env → Reaches c [] (first_state c) env
  after : (es : List Event) (st : State) (env : List ℤ) (e : Event) (env' : List ℤ) → Reaches c es st env → Settled c (step c st env e) env' → Reaches c (es ++ e ∷ []) (step c st env e) env'

-- ---- deltas: computing again until nothing changes

-- an environment with what a state gives put in
abbrev pub with_held : Circuit → State → ℕ → List ℤ → List ℤ
with_held c st s [] = []
with_held c st s (n ∷ env) = (if is_held c s then at st.held s else n) ∷ with_held c st (suc s) env

-- after env, each environment is the one before computed again, and the last changes no more
abbrev pub DeltasFrom : Circuit → State → List ℤ → List (List ℤ) → Type 0
DeltasFrom c st env [] = Settled c st env
DeltasFrom c st env (env' ∷ more) = (delta c st env ≡ env') × (env' ≢ env) × DeltasFrom c st env' more

-- the environments from one event on: the first is the one before it with the new state put in
abbrev pub Deltas : Circuit → State → List ℤ → List (List ℤ) → Type 0
Deltas c st env [] = ⊥
Deltas c st env (first ∷ more) = (first ≡ with_held c st 0 env) × DeltasFrom c st first more
