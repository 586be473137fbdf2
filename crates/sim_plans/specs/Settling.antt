-- What is left of the deltas of an event.
use Rattle.std.specs.Prelude.{◌≡◌, ℕ, ◌+◌, ◌≤◌, Bool, false, List, [], length, replicate, ℤ}
use Rattle.design_ir.specs.Circuits.{Circuit, State}
use Rattle.design_ir.specs.Histories.{DeltasFrom}
use Rattle.sim_plans.specs.declared.plan.Plan.{Plan}
use Rattle.sim_plans.specs.Plans.{Wakes, WakesPorts}
use Rattle.sim_plans.specs.Waiting.{Waiting}
use Rattle.sim_plans.specs.Woken.{AreChanged, deltas_of, runs_of}

-- behind this environment the deltas end, within two fewer than so many
pub record EndsIn (c : Circuit) (st : State) (env : List ℤ) (most : ℕ) : Type 0 where
  pub rest : List (List ℤ)
  pub are : DeltasFrom c st env rest
  pub few : length rest + 2 ≤ most

-- none of so many numbers waits
abbrev pub nobody : ℕ → Waiting
nobody bound = record { marks = replicate bound false; list = [] }

-- from an environment with the first, second and further deltas behind it, so many deltas in which a process runs, and
-- so many runs; the rows were these before the event, and are those after it
pub record AreCounts (c : Circuit) (rows after : List (List ℤ)) (old : List ℤ) (envs : List (List ℤ)) (deltas runs : ℕ) : Type 0 where
  pub many_deltas : deltas ≡ deltas_of c rows after old envs
  pub many_runs : runs ≡ runs_of c rows after old envs

-- the processes and read ports that read something that changed from one environment, with its rows, to the next are marked,
-- and no others: first those that read a signal with another number, then the ports of memories with other rows
pub record IsWoken (c : Circuit) (plan : Plan) (old new : List ℤ) (rows after : List (List ℤ)) (marks : List Bool) : Type 0 where
  pub many : length rows ≡ length c.memories
  pub between : List Bool
  pub changed : List Bool
  pub signals : Wakes plan.processes old new (replicate plan.agents false) between
  pub ports : WakesPorts (length c.processes) plan.reads changed between marks
  pub are_changed : AreChanged c rows after changed
