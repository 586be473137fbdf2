-- A memory that is being made: what it keeps to, and what its ports have in a pool. (Amaranth standard library reference, Memory
-- arrays: granularity divides the row; a read is transparent for write ports of its own domain. One domain for all write ports, and
-- how many rows, bits and ports there may be: docs/RULES.md.)
use Rattle.std.specs.Prelude.{◌≡◌, ◌≢◌, ℕ, ◌+◌, ◌*◌, ◌%◌, ◌==◌, ◌≤◌, ◌<◌, nat_lt, ◌&&◌, ◌||◌, Bool, true, false, ⊤, List, [], length, slice_get, pos, Option, Some, None, codes}
use Rattle.std.specs.List.{AllByRecursion}
use Rattle.amh_bits.specs.Patterns.{IsOf}
use Rattle.shape_rules.specs.Forms.{Form, unsigned}
use Rattle.design_ir.specs.declared.ids.ExprId.{ExprId}
use Rattle.design_ir.specs.declared.ids.SigId.{SigId}
use Rattle.design_ir.specs.declared.signal.Sig.{Sig}
use Rattle.design_ir.specs.declared.expr.Expr.TheVariants as expr
use Rattle.design_ir.specs.declared.memory.MemWrite.{MemWrite}
use Rattle.design_ir.specs.declared.memory.MemRead.{MemRead}
use Rattle.design_ir.specs.declared.memory.Memory.{Memory}
use Rattle.design_ir.specs.Pools.{Pooled}
use Rattle.design_ir.specs.Values.{form}
use Rattle.design_ir.specs.Designs.{IsTransparent, holds_reset}
use Rattle.memory_ports.specs.Ports.{address_width, enable_width}

-- ---- by itself

-- a number of bits that divides a row
abbrev pub is_divisor : ℕ → ℕ → Bool
is_divisor width g = nat_lt 0 g && (width % g == 0)

-- the whole row, or a number of bits that divides it
abbrev pub is_granularity : ℕ → ℕ → Bool
is_granularity width g = (g == width) || is_divisor width g

-- A memory without a name as yet, whose rows are numbers of its shape and whose ports fit each other.
pub record IsSpec (m : Memory) : Type 0 where
  pub unnamed : m.name ≡ []
  pub few_rows : m.depth ≤ 65536
  pub few_bits : m.depth * m.shape.width ≤ 1048576
  pub rows : length m.rows ≡ m.depth
  pub row_shapes : AllByRecursion (IsOf m.shape.signed m.shape.width) m.rows
  pub few_ports : length m.writes + length m.reads ≤ 64
  pub clocked_writes : AllByRecursion (λ (w : MemWrite). w.domain ≢ codes "comb") m.writes
  pub one_domain : AllByRecursion (λ (w : MemWrite). AllByRecursion (λ (v : MemWrite). v.domain ≡ w.domain) m.writes) m.writes
  pub granularities : AllByRecursion (λ (w : MemWrite). is_granularity m.shape.width w.granularity ≡ true) m.writes
  pub clocked_reads : AllByRecursion (λ (r : MemRead). r.domain ≢ Some (codes "comb")) m.reads
  pub transparent : AllByRecursion (λ (r : MemRead). AllByRecursion (IsTransparent m r.domain) r.transparent) m.reads

-- ---- in a pool

-- the expression is a signal of this shape
pub record IsSignal (q : Pooled) (f : Form) (e : ExprId) : Type 0 where
  pub sig : SigId
  pub signal : Sig
  pub stands : slice_get q.exprs e.0 ≡ Some (expr.Sig sig)
  pub there : slice_get q.signals sig.0 ≡ Some signal
  pub shape : signal.shape ≡ f

-- the signal has this shape, and begins at 0
pub record IsData (q : Pooled) (f : Form) (s : SigId) : Type 0 where
  pub signal : Sig
  pub there : slice_get q.signals s.0 ≡ Some signal
  pub shape : signal.shape ≡ f
  pub begins : signal.init ≡ pos 0

-- an enable of one bit, which a port has exactly where it has a clock
abbrev pub HasEnable : Pooled → Option (List ℕ) → Option ExprId → Type 0
HasEnable q None None = ⊤
HasEnable q None (Some e) = ⊥
HasEnable q (Some d) None = ⊥
HasEnable q (Some d) (Some e) = IsSignal q (unsigned 1) e

pub record HasWrite (q : Pooled) (depth : ℕ) (shape : Form) (w : MemWrite) : Type 0 where
  pub addr : IsSignal q (unsigned (address_width depth)) w.addr
  pub word : IsSignal q shape w.word
  pub enable : IsSignal q (unsigned (enable_width shape.width w.granularity)) w.enable

pub record HasRead (q : Pooled) (depth : ℕ) (shape : Form) (r : MemRead) : Type 0 where
  pub addr : IsSignal q (unsigned (address_width depth)) r.addr
  pub word : IsData q shape r.word
  pub enable : HasEnable q r.domain r.enable

-- the pool has the signals of the memory's ports
pub record HasPorts (q : Pooled) (m : Memory) : Type 0 where
  pub writes : AllByRecursion (HasWrite q m.depth m.shape) m.writes
  pub reads : AllByRecursion (HasRead q m.depth m.shape) m.reads

-- ---- in a pool, whatever expressions stand for the signals

-- an expression of the pool in which no reset stands, of this shape
pub record IsFitting (q : Pooled) (f : Form) (e : ExprId) : Type 0 where
  pub there : e.0 < length q.exprs
  pub resolved : holds_reset q e.0 ≡ false
  pub shape : form q e.0 ≡ f

abbrev pub HasFittingEnable : Pooled → Option (List ℕ) → Option ExprId → Type 0
HasFittingEnable q None None = ⊤
HasFittingEnable q None (Some e) = ⊥
HasFittingEnable q (Some d) None = ⊥
HasFittingEnable q (Some d) (Some e) = IsFitting q (unsigned 1) e

pub record FitsWrite (q : Pooled) (depth : ℕ) (shape : Form) (w : MemWrite) : Type 0 where
  pub addr : IsFitting q (unsigned (address_width depth)) w.addr
  pub word : IsFitting q shape w.word
  pub enable : IsFitting q (unsigned (enable_width shape.width w.granularity)) w.enable

pub record FitsRead (q : Pooled) (depth : ℕ) (shape : Form) (r : MemRead) : Type 0 where
  pub addr : IsFitting q (unsigned (address_width depth)) r.addr
  pub word : IsData q shape r.word
  pub enable : HasFittingEnable q r.domain r.enable

-- the expressions of the memory's ports fit, which is all that a design asks of them
pub record FitsPool (q : Pooled) (m : Memory) : Type 0 where
  pub writes : AllByRecursion (FitsWrite q m.depth m.shape) m.writes
  pub reads : AllByRecursion (FitsRead q m.depth m.shape) m.reads
