-- What a simulator stands for: the events that a design has had.
use Rattle.std.specs.Prelude.{◌≡◌, ◌≢◌, ◌<◌, ◌≤◌, ◌^◌, ℕ, true, false, List, map, length, ℤ, fold}
use Rattle.std.specs.List.{AllByRecursion}
use Rattle.design_ir.specs.declared.event.Event.{Event}
use Rattle.design_ir.specs.declared.memory.Memory.{Memory}
use Rattle.design_ir.specs.declared.signal.Sig.{Sig}
use Rattle.design_ir.specs.Circuits.{Circuit, State, at, is_among}
use Rattle.design_ir.specs.Histories.{Reaches, Deltas}
use Rattle.design_ir.specs.Settled.{Settled}
use Rattle.design_ir.specs.Steps.{clock_low}
use Rattle.design_ir.proofs.NumbersFit.{FitsSignals}
use Rattle.comb_graph.specs.Laws.{FitsRows}
use Rattle.comb_graph.specs.Orders.{is_comb, IsLongest}
use Rattle.delta_sim.specs.declared.settle.Counts.{Counts}
use Rattle.sim_plans.specs.declared.plan.Plan.{Plan}
use Rattle.sim_plans.specs.Plans.{IsPlan}
use Rattle.sim_plans.specs.Settling.{AreCounts, nobody}
use Rattle.sim_plans.specs.Tasks.{AreFitting}
use Rattle.sim_plans.specs.Waiting.{Waiting, IsWaiting}

-- the numbers of all signals, those that the state holds and those of the settled environment; the rows of each memory;
-- how many deltas and runs the last event took; the signals that it moved; and what the simulator works with, which only
-- `IsSimOf` speaks of
pub record Simulated : Type 0 where
  pub held : List ℤ
  pub rows : List (List ℤ)
  pub env : List ℤ
  pub counts : Counts
  pub longest : ℕ
  pub plan : Plan
  pub numbers : List ℤ
  pub next : List ℤ
  pub waits : Waiting
  pub then : Waiting
  pub woken : Waiting
  pub noted : List ℤ
  pub changed : Waiting
  pub moved : Waiting

abbrev pub state_of : List ℤ → List (List ℤ) → State
state_of held rows = record { held = held; rows = rows }

-- rows of their shape for each memory
pub record AreRowsOf (c : Circuit) (rows : List (List ℤ)) : Type 0 where
  pub count : length rows ≡ length c.memories
  pub fits : FitsRows c.memories rows

-- a number for each signal, of its shape
pub record AreNumbersOf (c : Circuit) (numbers : List ℤ) : Type 0 where
  pub count : length numbers ≡ length c.pool.signals
  pub fits : FitsSignals c.pool numbers

-- some of the signals, each once
pub record AreSignals (c : Circuit) (w : Waiting) : Type 0 where
  pub count : length w.marks ≡ length c.pool.signals
  pub once : IsWaiting w

-- a simulator of this design, settled
pub record IsSimOf (c : Circuit) (s : Simulated) : Type 0 where
  pub held : AreNumbersOf c s.held
  pub env : AreNumbersOf c s.env
  pub rows : AreRowsOf c s.rows
  pub settled : Settled c (state_of s.held s.rows) s.env
  pub longest : IsLongest c s.longest
  pub few_bits : s.longest ≤ 2 ^ 22
  pub plan : IsPlan c (length s.numbers) s.plan
  pub numbers : AreFitting c.pool s.numbers
  pub next : AreNumbersOf c s.next
  pub waits : s.waits ≡ nobody s.plan.jobs
  pub then : s.then ≡ nobody s.plan.jobs
  pub woken : s.woken ≡ nobody s.plan.agents
  pub noted : 64 ≤ length s.noted
  pub changed : s.changed ≡ nobody (length c.memories)
  pub moved : AreSignals c s.moved

-- a simulator of this design before any event, not yet settled: it is known what the state gives, and what nothing drives
pub record IsFresh (c : Circuit) (s : Simulated) : Type 0 where
  pub held : s.held ≡ fold clock_low (map (λ (x : Sig). x.init) c.pool.signals) c.domains
  pub rows : s.rows ≡ map (λ (m : Memory). m.rows) c.memories
  pub env : AreNumbersOf c s.env
  pub same : (i : ℕ) → is_comb c i ≡ false → at s.env i ≡ at s.held i
  pub longest : IsLongest c s.longest
  pub few_bits : s.longest ≤ 2 ^ 22
  pub plan : IsPlan c (length s.numbers) s.plan
  pub numbers : AreFitting c.pool s.numbers
  pub next : AreNumbersOf c s.next
  pub waits : s.waits ≡ nobody s.plan.jobs
  pub then : s.then ≡ nobody s.plan.jobs
  pub woken : s.woken ≡ nobody s.plan.agents
  pub noted : 64 ≤ length s.noted
  pub changed : s.changed ≡ nobody (length c.memories)
  pub moved : s.moved ≡ nobody (length c.pool.signals)

-- the design has had these events, and is settled behind them
pub record Stands (c : Circuit) (events : List Event) (s : Simulated) : Type 0 where
  pub of_design : IsSimOf c s
  pub reaches : Reaches c events (state_of s.held s.rows) s.env

-- the numbers of the simulator are those of an event's last delta, and it counted the deltas in which processes ran,
-- and their runs
pub record Settles (c : Circuit) (old new : Simulated) : Type 0 where
  pub deltas : List (List ℤ)
  pub are : Deltas c (state_of new.held new.rows) old.env deltas
  pub counts : AreCounts c old.rows new.rows old.env deltas new.counts.deltas new.counts.runs

-- each signal that has another number than before an event is told, and signals alone, each once
pub record Tells (c : Circuit) (old new : Simulated) : Type 0 where
  pub all : (s : ℕ) → at old.env s ≢ at new.env s → is_among new.moved.list s ≡ true
  pub signals : AllByRecursion (λ s. s < length c.pool.signals) new.moved.list
  pub once : IsWaiting new.moved
