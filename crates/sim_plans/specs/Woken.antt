-- Which processes run in the deltas of an event, and how often (Amaranth guide, Simulation: combinational processes are
-- run again, delta after delta, as long as something that they read has changed). A process is all combinational
-- statements of one fragment, and each combinational read port is one. What is read is counted by whole signals, and a
-- memory's rows as a whole.
use Rattle.std.specs.Prelude.{◌≡◌, ℕ, ◌+◌, ◌<◌, ◌==◌, ◌&&◌, ◌||◌, Bool, true, false, not, if◌then◌else◌, List, [], ◌∷◌, length, is_none, slice_index_or, ℤ}
use Rattle.std.specs.List.{count_by, list_any, range_with_len}
use Rattle.std.specs.Ordering.{int_eq}
use Rattle.design_ir.specs.declared.memory.MemRead.{MemRead}
use Rattle.design_ir.specs.declared.memory.Memory.{Memory}
use Rattle.design_ir.specs.declared.process.DesignProcess.{DesignProcess}
use Rattle.design_ir.specs.Circuits.{Circuit, at}
use Rattle.sim_plans.specs.Reads.{stands_in, block_reads}

-- a signal has another number
abbrev pub changed : List ℤ → List ℤ → ℕ → Bool
changed old new s = not (int_eq (at old s) (at new s))

-- a combinational process reads a signal that has another number
abbrev pub is_woken : Circuit → List ℤ → List ℤ → DesignProcess → Bool
is_woken c old new p =
    is_none p.domain && list_any (λ s. changed old new s && block_reads c.pool s p.body) (range_with_len 0 (length c.pool.signals))

-- ---- read ports

abbrev pub same_rows : List ℤ → List ℤ → Bool
same_rows [] [] = true
same_rows [] (y ∷ ys) = false
same_rows (x ∷ xs) [] = false
same_rows (x ∷ xs) (y ∷ ys) = int_eq x y && same_rows xs ys

-- for each memory whether its rows are others
abbrev pub AreChanged : Circuit → List (List ℤ) → List (List ℤ) → List Bool → Type 0
AreChanged c rows after changed = (k : ℕ) → k < length c.memories → slice_index_or changed k false ≡ not (same_rows (slice_index_or rows k []) (slice_index_or after k []))

-- a combinational read port whose address has a signal with another number, or whose memory has other rows
abbrev pub is_port_woken : Circuit → List ℤ → List ℤ → List ℤ → List ℤ → MemRead → Bool
is_port_woken c old new rows after r =
    is_none r.domain && (not (same_rows rows after) || list_any (λ s. changed old new s && stands_in c.pool s r.addr.0) (range_with_len 0 (length c.pool.signals)))

abbrev pub ports_woken : Circuit → List ℤ → List ℤ → List Memory → List (List ℤ) → List (List ℤ) → ℕ
ports_woken c old new [] rows after = 0
ports_woken c old new (m ∷ ms) [] after = 0
ports_woken c old new (m ∷ ms) (x ∷ rows) [] = 0
ports_woken c old new (m ∷ ms) (x ∷ rows) (y ∷ after) = count_by (is_port_woken c old new x y) m.reads + ports_woken c old new ms rows after

-- ---- counts

-- how many processes read something that changed from one environment, with its rows, to the next
abbrev pub woken : Circuit → List (List ℤ) → List (List ℤ) → List ℤ → List ℤ → ℕ
woken c rows after old new = count_by (is_woken c old new) c.processes + ports_woken c old new c.memories rows after

-- the runs behind each of these environments, the rows staying
abbrev pub runs_from : Circuit → List (List ℤ) → List ℤ → List (List ℤ) → ℕ
runs_from c rows old [] = 0
runs_from c rows old (env ∷ more) = woken c rows rows old env + runs_from c rows env more

abbrev pub one_if_some : ℕ → ℕ
one_if_some n = if n == 0 then 0 else 1

-- the deltas behind each of these environments in which a process runs
abbrev pub deltas_from : Circuit → List (List ℤ) → List ℤ → List (List ℤ) → ℕ
deltas_from c rows old [] = 0
deltas_from c rows old (env ∷ more) = one_if_some (woken c rows rows old env) + deltas_from c rows env more

-- the runs of an event: before it the rows and the environment were these, after it the rows are those, and its deltas
-- are these environments, of which the first is what the event itself changed
abbrev pub runs_of : Circuit → List (List ℤ) → List (List ℤ) → List ℤ → List (List ℤ) → ℕ
runs_of c rows after old [] = 0
runs_of c rows after old (first ∷ more) = woken c rows after old first + runs_from c after first more

-- the deltas of an event in which a process runs
abbrev pub deltas_of : Circuit → List (List ℤ) → List (List ℤ) → List ℤ → List (List ℤ) → ℕ
deltas_of c rows after old [] = 0
deltas_of c rows after old (first ∷ more) = one_if_some (woken c rows after old first) + deltas_from c after first more
