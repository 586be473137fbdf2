-- What is known of the first processes while a plan grows.
use Rattle.std.specs.Prelude.{◌≡◌, ◌≢◌, ℕ, ◌+◌, ◌<◌, ◌≤◌, ◌==◌, ◌&&◌, ◌||◌, true, false, List, length, is_none, slice_get, Some, None}
use Rattle.design_ir.specs.declared.ids.DomainId.{DomainId}
use Rattle.design_ir.specs.declared.memory.MemRead.{MemRead}
use Rattle.design_ir.specs.declared.process.DesignProcess.{DesignProcess}
use Rattle.design_ir.specs.Circuits.{Circuit, is_among}
use Rattle.design_ir.specs.Guards.{driven}
use Rattle.sim_plans.specs.declared.compile.Marks.{Marks}
use Rattle.sim_plans.specs.declared.task.PortTask.{PortTask}
use Rattle.sim_plans.specs.declared.task.Task.{Task}
use Rattle.sim_plans.specs.Driven.{numbers_of}
use Rattle.sim_plans.specs.Plans.{IsTable, HasClocked, IsCombTask, IsCovered, ArePortTasks, readers_of}
use Rattle.sim_plans.specs.Reads.{block_reads}
use Rattle.sim_plans.specs.Settling.{nobody}
use Rattle.sim_plans.specs.Tasks.{picked}

-- these signals have one reader more
pub record IsAdded (reads : List ℕ) (n : ℕ) (old new : List (List ℕ)) : Type 0 where
  pub count : length new ≡ length old
  pub each : (s k : ℕ) → s < length old → is_among (readers_of new s) k ≡ (is_among (readers_of old s) k || (is_among reads s && (n == k)))

-- the tasks of the first so many processes, and who of them reads each signal
pub record AreTables (c : Circuit) (n : ℕ) (clocks combs : List Task) (task_table process_table : List (List ℕ)) : Type 0 where
  pub clocked_count : length clocks ≡ n
  pub clocked : (k : ℕ) (p : DesignProcess) (d : DomainId) → k < n → slice_get c.processes k ≡ Some p → p.domain ≡ Some d → HasClocked c (length c.pool.exprs) clocks k p
  pub tasks : (j : ℕ) (t : Task) → slice_get combs j ≡ Some t → IsCombTask c (length c.pool.exprs) t × (t.process < n)
  pub covered : (k : ℕ) (p : DesignProcess) (s : ℕ) → k < n → slice_get c.processes k ≡ Some p → p.domain ≡ None → is_among (driven c.pool p.body) s ≡ true → IsCovered combs k s
  pub apart : (i j : ℕ) (a b : Task) (s : ℕ) → slice_get combs i ≡ Some a → slice_get combs j ≡ Some b → i ≢ j → is_among (numbers_of a.outs) s ≡ true → is_among (numbers_of b.outs) s ≡ false
  pub readers : IsTable (length c.pool.signals) (length combs) task_table
  pub awake : (s j : ℕ) (t : Task) (p : DesignProcess) → slice_get combs j ≡ Some t → slice_get c.processes t.process ≡ Some p → block_reads c.pool s (picked p.body t.statements) ≡ true → is_among (readers_of task_table s) j ≡ true
  pub processes : IsTable (length c.pool.signals) n process_table
  pub exact : (s k : ℕ) (p : DesignProcess) → s < length c.pool.signals → k < n → slice_get c.processes k ≡ Some p → is_among (readers_of process_table s) k ≡ (is_none p.domain && block_reads c.pool s p.body)

-- the same while process n is worked on: these statements of it are in tasks
pub record ArePartial (c : Circuit) (n : ℕ) (p : DesignProcess) (gone : List ℕ) (combs : List Task) (task_table process_table : List (List ℕ)) : Type 0 where
  pub tasks : (j : ℕ) (t : Task) → slice_get combs j ≡ Some t → IsCombTask c (length c.pool.exprs) t × (t.process ≤ n)
  pub now : (j : ℕ) (t : Task) (s : ℕ) → slice_get combs j ≡ Some t → t.process ≡ n → is_among (numbers_of t.outs) s ≡ true → is_among (driven c.pool (picked p.body gone)) s ≡ true
  pub covered : (k : ℕ) (q : DesignProcess) (s : ℕ) → k < n → slice_get c.processes k ≡ Some q → q.domain ≡ None → is_among (driven c.pool q.body) s ≡ true → IsCovered combs k s
  pub covered_now : (s : ℕ) → is_among (driven c.pool (picked p.body gone)) s ≡ true → IsCovered combs n s
  pub apart : (i j : ℕ) (a b : Task) (s : ℕ) → slice_get combs i ≡ Some a → slice_get combs j ≡ Some b → i ≢ j → is_among (numbers_of a.outs) s ≡ true → is_among (numbers_of b.outs) s ≡ false
  pub readers : IsTable (length c.pool.signals) (length combs) task_table
  pub awake : (s j : ℕ) (t : Task) (q : DesignProcess) → slice_get combs j ≡ Some t → slice_get c.processes t.process ≡ Some q → block_reads c.pool s (picked q.body t.statements) ≡ true → is_among (readers_of task_table s) j ≡ true
  pub processes : IsTable (length c.pool.signals) (n + 1) process_table
  pub exact : (s k : ℕ) (q : DesignProcess) → s < length c.pool.signals → k < n → slice_get c.processes k ≡ Some q → is_among (readers_of process_table s) k ≡ (is_none q.domain && block_reads c.pool s q.body)
  pub exact_now : (s : ℕ) → s < length c.pool.signals → is_among (readers_of process_table s) n ≡ block_reads c.pool s (picked p.body gone)

-- the tasks of the first combinational read ports, and who reads each signal with them; who read it before them still does
pub record ArePorted (c : Circuit) (first : ℕ) (own : List PortTask) (ports : List (ℕ × MemRead)) (old_tasks old_processes task_table process_table : List (List ℕ)) : Type 0 where
  pub tasks : ArePortTasks c (length c.pool.exprs) first own ports task_table process_table
  pub readers : IsTable (length c.pool.signals) (first + length own) task_table
  pub processes : IsTable (length c.pool.signals) (length c.processes + length own) process_table
  pub same_readers : (s j : ℕ) → j < first → is_among (readers_of task_table s) j ≡ is_among (readers_of old_tasks s) j
  pub same_processes : (s k : ℕ) → k < length c.processes → is_among (readers_of process_table s) k ≡ is_among (readers_of old_processes s) k

-- nothing is marked
pub record AreNoMarks (c : Circuit) (marks : Marks) : Type 0 where
  pub aims : marks.aims ≡ nobody (length c.pool.exprs)
  pub values : marks.values ≡ nobody (length c.pool.exprs)

-- the room in which tasks are worked out
pub record IsRoom (c : Circuit) (marks : Marks) (noted : List ℕ) : Type 0 where
  pub unmarked : AreNoMarks c marks
  pub long : length noted ≡ length c.pool.signals
