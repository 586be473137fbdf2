-- Pools in which the expressions of a design mean the same.
use Rattle.std.specs.Prelude.{◌≡◌, ℕ, List, ℤ}
use Rattle.std.specs.List.{AllByRecursion}
use Rattle.design_ir.specs.declared.ids.ExprId.{ExprId}
use Rattle.design_ir.specs.declared.memory.MemWrite.{MemWrite}
use Rattle.design_ir.specs.declared.memory.MemRead.{MemRead}
use Rattle.design_ir.specs.declared.memory.Memory.{Memory}
use Rattle.design_ir.specs.declared.process.DesignProcess.{DesignProcess}
use Rattle.design_ir.specs.Pools.{Pooled}
use Rattle.design_ir.specs.Values.{num}
use Rattle.design_ir.specs.Targets.{target_bits, target_signals}
use Rattle.design_ir.specs.Guards.{block_exprs}
use Rattle.design_ir.specs.Circuits.{Circuit}
use Rattle.fragment_walks.specs.Held.{read_exprs, write_exprs}

-- an expression has the same integer, and as a target it stands for the same bits, of the same signals
pub record IsSame (p q : Pooled) (k : ℕ) : Type 0 where
  pub value : (env : List ℤ) → num p env k ≡ num q env k
  pub places : (env : List ℤ) → target_bits p env k ≡ target_bits q env k
  pub signals : target_signals p k ≡ target_signals q k

abbrev pub AllSame : Pooled → Pooled → List ExprId → Type 0
AllSame p q es = AllByRecursion (λ (e : ExprId). IsSame p q e.0) es

pub record IsSameMemory (p q : Pooled) (m : Memory) : Type 0 where
  pub writes : AllByRecursion (λ (w : MemWrite). AllSame p q (write_exprs w)) m.writes
  pub reads : AllByRecursion (λ (r : MemRead). AllSame p q (read_exprs r)) m.reads

-- the signals are the same, and so are the expressions of all statements and ports
pub record AreSameIn (p q : Pooled) (c : Circuit) : Type 0 where
  pub signals : p.signals ≡ q.signals
  pub processes : AllByRecursion (λ (x : DesignProcess). AllSame p q (block_exprs x.body)) c.processes
  pub memories : AllByRecursion (IsSameMemory p q) c.memories
