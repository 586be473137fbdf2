-- The ports of memories, and what is worked out of them once.
use Rattle.std.specs.Prelude.{◌≡◌, ◌≢◌, ℕ, suc, ◌<◌, if◌then◌else◌, List, [], ◌∷◌, ◌++◌, length, is_none, slice_get, slice_index_or, ℤ, pos, Option, Some, None}
use Rattle.std.specs.List.{AllByRecursion, flat_map}
use Rattle.design_ir.specs.declared.ids.ExprId.{ExprId}
use Rattle.design_ir.specs.declared.memory.MemRead.{MemRead}
use Rattle.design_ir.specs.declared.memory.MemWrite.{MemWrite}
use Rattle.design_ir.specs.declared.memory.Memory.{Memory}
use Rattle.design_ir.specs.Circuits.{Circuit}
use Rattle.design_ir.specs.Pools.{Pooled}
use Rattle.design_ir.specs.Rows.{row_at}
use Rattle.design_ir.specs.Values.{num}
use Rattle.sim_plans.specs.declared.task.PortTask.{PortTask}
use Rattle.sim_plans.specs.Tasks.{IsProgram, AreAmong}

-- ---- read ports without a clock

-- those of a memory's read ports, each with the number of the memory
abbrev pub unclocked : ℕ → List MemRead → List (ℕ × MemRead)
unclocked k [] = []
unclocked k (r ∷ rs) = if is_none r.domain then (k, r) ∷ unclocked k rs else unclocked k rs

-- those of memories that are numbered from k on
abbrev pub comb_ports : ℕ → List Memory → List (ℕ × MemRead)
comb_ports k [] = []
comb_ports k (m ∷ ms) = unclocked k m.reads ++ comb_ports (suc k) ms

-- the task of such a port
pub record IsPortTask (c : Circuit) (count : ℕ) (t : PortTask) (x : ℕ × MemRead) : Type 0 where
  pub memory : t.memory ≡ x.0
  pub addr : t.addr ≡ x.1.addr
  pub outs : t.outs ≡ x.1.word ∷ []
  pub program : IsProgram c.pool count t.exprs
  pub computed : AreAmong t.exprs (t.addr ∷ [])

-- ---- the expressions of ports

abbrev pub write_exprs : MemWrite → List ExprId
write_exprs w = w.addr ∷ w.word ∷ w.enable ∷ []

abbrev pub enable_exprs : Option ExprId → List ExprId
enable_exprs None = []
enable_exprs (Some e) = e ∷ []

abbrev pub read_exprs : MemRead → List ExprId
read_exprs r = r.addr ∷ enable_exprs r.enable

abbrev pub port_exprs : Memory → List ExprId
port_exprs m = flat_map write_exprs m.writes ++ flat_map read_exprs m.reads

-- at place k stand the expressions of a memory's ports, each behind those that it names
pub record HasPorts (c : Circuit) (count : ℕ) (lists : List (List ExprId)) (k : ℕ) (m : Memory) : Type 0 where
  pub list : List ExprId
  pub stands : slice_get lists k ≡ Some list
  pub program : IsProgram c.pool count list
  pub computed : AreAmong list (port_exprs m)

-- the integers of these expressions are known
abbrev pub AreKnown : Pooled → List ℤ → List ℤ → List ExprId → Type 0
AreKnown p env nums es = AllByRecursion (λ (e : ExprId). (e.0 < length nums) × (slice_index_or nums e.0 (pos 0) ≡ num p env e.0)) es

-- ---- rows that are written

-- the rows at the addresses of write ports
abbrev pub AreNoted : Pooled → List ℤ → List ℤ → List MemWrite → List ℤ → Type 0
AreNoted p env rows ws noted = (i : ℕ) (w : MemWrite) → slice_get ws i ≡ Some w → slice_index_or noted i (pos 0) ≡ row_at p env rows w.addr

-- one of these is another row
pub record IsOther (p : Pooled) (env rows : List ℤ) (ws : List MemWrite) (noted : List ℤ) : Type 0 where
  pub i : ℕ
  pub w : MemWrite
  pub stands : slice_get ws i ≡ Some w
  pub other : slice_index_or noted i (pos 0) ≢ row_at p env rows w.addr
