-- What a simulator works out of a design once: its tasks, and who reads each signal.
use Rattle.std.specs.Prelude.{◌≡◌, ◌≢◌, ℕ, ◌+◌, ◌<◌, ◌&&◌, ◌||◌, ◌⊎◌, Bool, true, false, List, [], ◌∷◌, ◌++◌, filter, map, length, is_none, slice_get, slice_set, slice_index_or, ℤ, Option, Some, None}
use Rattle.std.specs.List.{AllByRecursion, range_with_len}
use Rattle.design_ir.specs.declared.ids.DomainId.{DomainId}
use Rattle.design_ir.specs.declared.domain.Domain.{Domain}
use Rattle.design_ir.specs.declared.memory.MemRead.{MemRead}
use Rattle.design_ir.specs.declared.memory.Memory.{Memory}
use Rattle.design_ir.specs.declared.process.DesignProcess.{DesignProcess}
use Rattle.design_ir.specs.declared.signal.Sig.{Sig}
use Rattle.design_ir.specs.Circuits.{Circuit, State, option_test, at, is_among, is_held}
use Rattle.design_ir.specs.Guards.{driven}
use Rattle.design_ir.specs.Settled.{delta}
use Rattle.sim_plans.specs.declared.task.PortTask.{PortTask}
use Rattle.sim_plans.specs.declared.task.Task.{Task}
use Rattle.sim_plans.specs.declared.plan.Plan.{Plan}
use Rattle.sim_plans.specs.Driven.{numbers_of, IsLike}
use Rattle.sim_plans.specs.Ports.{HasPorts, IsPortTask, comb_ports}
use Rattle.sim_plans.specs.Reads.{block_reads, stands_in}
use Rattle.sim_plans.specs.Tasks.{IsTask, picked}

-- ---- readers

abbrev pub readers_of : List (List ℕ) → ℕ → List ℕ
readers_of table s = slice_index_or table s []

-- for each of so many signals a list of numbers below a bound
pub record IsTable (n bound : ℕ) (table : List (List ℕ)) : Type 0 where
  pub count : length table ≡ n
  pub below : (s k : ℕ) → is_among (readers_of table s) k ≡ true → k < bound

-- ---- asynchronous resets

-- the domain is reset asynchronously
abbrev pub is_async : Circuit → DomainId → Bool
is_async c d = option_test (λ (x : Domain). x.async_reset) (slice_get c.domains d.0)

-- the process with this number is clocked, and its domain is reset asynchronously
abbrev pub is_clearable : Circuit → ℕ → Bool
is_clearable c k = option_test (λ (p : DesignProcess). option_test (is_async c) p.domain) (slice_get c.processes k)

abbrev pub clearable_processes : Circuit → List ℕ
clearable_processes c = filter (is_clearable c) (range_with_len 0 (length c.processes))

-- ---- plans

-- the task of a clocked process has all its statements
pub record IsClockedTask (c : Circuit) (count : ℕ) (t : Task) (p : DesignProcess) : Type 0 where
  pub task : IsTask c count t p
  pub whole : picked p.body t.statements ≡ p.body
  pub outs : IsLike (numbers_of t.outs) (driven c.pool p.body)

-- the task of a clocked process at its place
pub record HasClocked (c : Circuit) (count : ℕ) (tasks : List Task) (k : ℕ) (p : DesignProcess) : Type 0 where
  pub t : Task
  pub stands : slice_get tasks k ≡ Some t
  pub is_task : IsClockedTask c count t p

-- a task of a combinational process
pub record IsCombTask (c : Circuit) (count : ℕ) (t : Task) : Type 0 where
  pub p : DesignProcess
  pub task : IsTask c count t p
  pub comb : p.domain ≡ None
  pub below : AllByRecursion (λ s. s < length c.pool.signals) (numbers_of t.outs)

-- a task drives the signal
pub record IsCovered (tasks : List Task) (k s : ℕ) : Type 0 where
  pub j : ℕ
  pub t : Task
  pub stands : slice_get tasks j ≡ Some t
  pub process : t.process ≡ k
  pub drives : is_among (numbers_of t.outs) s ≡ true

-- the tasks of combinational read ports, which are numbered from one number on among the tasks, and behind the processes:
-- they read the signals in their addresses
pub record ArePortTasks (c : Circuit) (count first : ℕ) (tasks : List PortTask) (ports : List (ℕ × MemRead)) (task_table process_table : List (List ℕ)) : Type 0 where
  pub many : length tasks ≡ length ports
  pub each : (i : ℕ) (t : PortTask) (x : ℕ × MemRead) → slice_get tasks i ≡ Some t → slice_get ports i ≡ Some x → IsPortTask c count t x
  pub awake : (s i : ℕ) (x : ℕ × MemRead) → slice_get ports i ≡ Some x → stands_in c.pool s x.1.addr.0 ≡ true → is_among (readers_of task_table s) (first + i) ≡ true
  pub exact : (s i : ℕ) (x : ℕ × MemRead) → s < length c.pool.signals → slice_get ports i ≡ Some x → is_among (readers_of process_table s) (length c.processes + i) ≡ stands_in c.pool s x.1.addr.0

pub record IsPlan (c : Circuit) (count : ℕ) (plan : Plan) : Type 0 where
  pub given : (s : ℕ) → s < length c.pool.signals → is_among (numbers_of plan.given) s ≡ is_held c s
  pub given_below : AllByRecursion (λ s. s < length c.pool.signals) (numbers_of plan.given)
  pub clocked : (k : ℕ) (p : DesignProcess) (d : DomainId) → slice_get c.processes k ≡ Some p → p.domain ≡ Some d → HasClocked c count plan.clocked k p
  pub tasks : (j : ℕ) (t : Task) → slice_get plan.tasks j ≡ Some t → IsCombTask c count t
  pub covered : (k : ℕ) (p : DesignProcess) (s : ℕ) → slice_get c.processes k ≡ Some p → p.domain ≡ None → is_among (driven c.pool p.body) s ≡ true → IsCovered plan.tasks k s
  pub apart : (i j : ℕ) (a b : Task) (s : ℕ) → slice_get plan.tasks i ≡ Some a → slice_get plan.tasks j ≡ Some b → i ≢ j → is_among (numbers_of a.outs) s ≡ true → is_among (numbers_of b.outs) s ≡ false
  pub ports : (k : ℕ) (m : Memory) → slice_get c.memories k ≡ Some m → HasPorts c count plan.ports k m
  pub readers : IsTable (length c.pool.signals) plan.jobs plan.readers
  pub awake : (s j : ℕ) (t : Task) (p : DesignProcess) → slice_get plan.tasks j ≡ Some t → slice_get c.processes t.process ≡ Some p → block_reads c.pool s (picked p.body t.statements) ≡ true → is_among (readers_of plan.readers s) j ≡ true
  pub processes : IsTable (length c.pool.signals) plan.agents plan.processes
  pub exact : (s k : ℕ) (p : DesignProcess) → s < length c.pool.signals → slice_get c.processes k ≡ Some p → is_among (readers_of plan.processes s) k ≡ (is_none p.domain && block_reads c.pool s p.body)
  pub reads : ArePortTasks c count (length plan.tasks) plan.reads (comb_ports 0 c.memories) plan.readers plan.processes
  pub jobs : plan.jobs ≡ length plan.tasks + length plan.reads
  pub agents : plan.agents ≡ length c.processes + length plan.reads
  pub clearable : plan.clearable ≡ clearable_processes c

-- the signals that each task drives
abbrev pub all_outs : Plan → List (List ℕ)
all_outs plan = map (λ (t : Task). numbers_of t.outs) plan.tasks ++ map (λ (t : PortTask). numbers_of t.outs) plan.reads

abbrev pub outs_at : Plan → ℕ → List ℕ
outs_at plan j = slice_index_or (all_outs plan) j []

-- ---- waking

-- what reads a signal that has another number now waits, as what waited before, and nothing else does
pub record Wakes (table : List (List ℕ)) (old new : List ℤ) (was is : List Bool) : Type 0 where
  pub count : length is ≡ length was
  pub stays : (k : ℕ) → slice_index_or was k false ≡ true → slice_index_or is k false ≡ true
  pub wakes : (s k : ℕ) → at old s ≢ at new s → is_among (readers_of table s) k ≡ true → slice_index_or is k false ≡ true
  pub sound : (k : ℕ) → slice_index_or is k false ≡ true → (slice_index_or was k false ≡ true) ⊎ ((s : ℕ) × (at old s ≢ at new s) × (is_among (readers_of table s) k ≡ true))

-- the signals that have other numbers now are noted, as those are that were noted before
pub record Notes (old new : List ℤ) (was is : List Bool) : Type 0 where
  pub count : length is ≡ length was
  pub stays : (s : ℕ) → slice_index_or was s false ≡ true → slice_index_or is s false ≡ true
  pub notes : (s : ℕ) → at old s ≢ at new s → slice_index_or is s false ≡ true

-- these signals with their numbers from others
abbrev pub taken : List ℤ → List ℕ → List ℤ → List ℤ
taken from [] env = env
taken from (s ∷ ss) env = taken from ss (slice_set env s (at from s))

-- the read ports whose memories have other rows now wait too, and nothing else does; they are numbered from one number on
pub record WakesPorts (first : ℕ) (tasks : List PortTask) (changed was is : List Bool) : Type 0 where
  pub count : length is ≡ length was
  pub ports : (i : ℕ) (t : PortTask) → slice_get tasks i ≡ Some t → slice_index_or is (first + i) false ≡ (slice_index_or was (first + i) false || slice_index_or changed t.memory false)
  pub others : (j : ℕ) → j < first → slice_index_or is j false ≡ slice_index_or was j false

-- no task that waits drives the signal
abbrev pub IsUntouched : Plan → List Bool → ℕ → Type 0
IsUntouched plan marks s = (j : ℕ) → slice_index_or marks j false ≡ true → is_among (outs_at plan j) s ≡ false

-- what no waiting task drives is as the next delta leaves it
abbrev pub Rests : Circuit → State → Plan → List Bool → List ℤ → Type 0
Rests c st plan marks env = (s : ℕ) → IsUntouched plan marks s → at (delta c st env) s ≡ at env s

-- ---- where a task begins

abbrev pub init_at : ℕ → List ℤ → Option Sig → List ℤ
init_at s cur None = cur
init_at s cur (Some x) = slice_set cur s x.init

-- these signals at their inits
abbrev pub begun : List Sig → List ℤ → List ℕ → List ℤ
begun sigs cur [] = cur
begun sigs cur (s ∷ ss) = begun sigs (init_at s cur (slice_get sigs s)) ss
