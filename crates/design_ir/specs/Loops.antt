-- Which bits need which: a bit that needs itself is a loop.
use Rattle.std.specs.Prelude.{◌≡◌, ℕ, ◌<◌, ◌⊎◌, List, [], ◌∷◌, ◌++◌, Contains, Option, Some, None}
use Rattle.std.specs.List.{flat_map}
use Rattle.design_ir.specs.declared.ids.ExprId.{ExprId}
use Rattle.design_ir.specs.declared.memory.Memory.{Memory}
use Rattle.design_ir.specs.declared.memory.MemRead.{MemRead}
use Rattle.design_ir.specs.declared.process.DesignProcess.{DesignProcess}
use Rattle.design_ir.specs.Pools.{Pooled}
use Rattle.design_ir.specs.Values.{form, signal_form}
use Rattle.design_ir.specs.Targets.{Bit, Aim, fixed_place, aims}
use Rattle.design_ir.specs.Guards.{Guard, Guarded, guarded}
use Rattle.design_ir.specs.Needed.{extended, needed, needed_whole, needed_indices}
use Rattle.design_ir.specs.Circuits.{Circuit}

-- what a value's part in an assignment needs: that of the bit that is written where it is fixed, else of every bit
abbrev pub needed_value : Pooled → ExprId → Option ℕ → List Bit
needed_value pool value None = needed_whole pool value
needed_value pool value (Some k) = extended (form pool value.0) (needed pool value.0) k

-- an assignment may write b, and then reads c
pub record AssignmentNeeds (pool : Pooled) (g : Guarded) (b c : Bit) : Type 0 where
  pub aim : Aim
  pub may : Contains (aims pool g.target.0) aim
  pub writes : aim.bit ≡ b
  pub reads : Contains (flat_map (λ (x : Guard). needed_whole pool x.condition) g.guards ++ needed_indices pool g.target.0 ++ needed_value pool g.value (fixed_place aim.spot)) c

-- a statement of a comb process may write b, and then reads c
pub record ProcessNeeds (circuit : Circuit) (b c : Bit) : Type 0 where
  pub process : DesignProcess
  pub among : Contains circuit.processes process
  pub comb : process.domain ≡ None
  pub assignment : Guarded
  pub stands : Contains (guarded [] process.body) assignment
  pub needs : AssignmentNeeds circuit.pool assignment b c

-- b is of the data of a comb read whose address reads c
pub record ReadNeeds (circuit : Circuit) (b c : Bit) : Type 0 where
  pub memory : Memory
  pub among : Contains circuit.memories memory
  pub read : MemRead
  pub stands : Contains memory.reads read
  pub comb : read.domain ≡ None
  pub word : b.sig ≡ read.word.0
  pub inside : b.index < (signal_form circuit.pool.signals b.sig).width
  pub address : Contains (needed_whole circuit.pool read.addr) c

abbrev pub Needs : Circuit → Bit → Bit → Type 0
Needs circuit b c = ProcessNeeds circuit b c ⊎ ReadNeeds circuit b c

-- each bit needs the next, and the last needs the end
abbrev pub Chain : Circuit → Bit → List Bit → Bit → Type 0
Chain circuit b [] end = Needs circuit b end
Chain circuit b (c ∷ cs) end = Needs circuit b c × Chain circuit c cs end

-- a chain of needs leads from the bit to itself
abbrev pub Loop : Circuit → Bit → Type 0
Loop circuit b = (between : List Bit) × Chain circuit b between b
