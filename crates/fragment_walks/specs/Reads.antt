-- What statements and memory ports read, and what they drive. A target's own signals are not read; its offsets and indices are.
-- (Amaranth guide: Modules; Amaranth standard library reference: Memory arrays.)
use Rattle.std.specs.Prelude.{ℕ, ◌||◌, Bool, List, [], ◌∷◌, ◌++◌, map}
use Rattle.std.specs.List.{flat_map, list_any}
use Rattle.design_ir.specs.declared.ids.ExprId.{ExprId}
use Rattle.design_ir.specs.declared.memory.MemRead.{MemRead}
use Rattle.design_ir.specs.declared.memory.Memory.{Memory}
use Rattle.design_ir.specs.declared.process.Process.{Process}
use Rattle.design_ir.specs.declared.expr.Expr as expr
use Rattle.design_ir.specs.declared.expr.Expr.{Expr}
use Rattle.design_ir.specs.declared.expr.Expr.TheVariants.{Const, Unary, Binary, Mux, Slice, Cat, Part, Pick, Cast, Matches, Reset}
use Rattle.design_ir.specs.Trees.{Statement, assign, choose, Choices, none, arm, Block, done, next}
use Rattle.design_ir.specs.Pools.{Pooled, answer}
use Rattle.design_ir.specs.Named.{named}
use Rattle.design_ir.specs.Guards.{driven}
use Rattle.design_ir.specs.Circuits.{is_among}
use Rattle.fragment_walks.specs.Held.{memory_exprs}
use Rattle.fragment_walks.specs.Marks.{numbers}

-- ---- expressions

-- the signal that an expression is
abbrev pub own_signals : Expr → List ℕ
own_signals (expr.TheVariants.Sig s) = s.0 ∷ []
own_signals (Slice a low width) = []
own_signals (Cat es) = []
own_signals (Part a offset width stride) = []
own_signals (Pick index es) = []
own_signals (Cast a signed) = []
own_signals (Const n s) = []
own_signals (Unary op a) = []
own_signals (Binary op a b) = []
own_signals (Mux s a b) = []
own_signals (Matches a patterns) = []
own_signals (Reset domain place) = []

abbrev pub read_step : (ℕ → List ℕ) → Expr → List ℕ
read_step signals e = own_signals e ++ flat_map (λ (a : ExprId). signals a.0) (named e)

-- the signals that stand in expression k
unfoldable pub signals_in : Pooled → ℕ → List ℕ
signals_in pool k = answer [] read_step pool.exprs k

-- ---- targets

abbrev pub offset_step : (ℕ → List ℕ) → Expr → List ℕ
offset_step offsets (Slice a low width) = offsets a.0
offset_step offsets (Cat es) = flat_map (λ (e : ExprId). offsets e.0) es
offset_step offsets (Part a offset width stride) = offset.0 ∷ offsets a.0
offset_step offsets (Pick index es) = index.0 ∷ flat_map (λ (e : ExprId). offsets e.0) es
offset_step offsets (Cast a signed) = offsets a.0
offset_step offsets (expr.TheVariants.Sig s) = []
offset_step offsets (Const n s) = []
offset_step offsets (Unary op a) = []
offset_step offsets (Binary op a b) = []
offset_step offsets (Mux s a b) = []
offset_step offsets (Matches a patterns) = []
offset_step offsets (Reset domain place) = []

-- the expressions that are offsets and indices in target k
unfoldable pub offsets_in : Pooled → ℕ → List ℕ
offsets_in pool k = answer [] offset_step pool.exprs k

-- ---- statements

-- the targets of assignments
abbrev mutual
  pub statement_targets : Statement → List ℕ
  statement_targets (assign t v p) = t.0 ∷ []
  statement_targets (choose arms) = choices_targets arms

  pub choices_targets : Choices → List ℕ
  choices_targets none = []
  choices_targets (arm c body others) = block_targets body ++ choices_targets others

  pub block_targets : Block → List ℕ
  block_targets done = []
  block_targets (next s rest) = statement_targets s ++ block_targets rest

-- right sides and conditions
abbrev mutual
  pub statement_values : Statement → List ℕ
  statement_values (assign t v p) = v.0 ∷ []
  statement_values (choose arms) = choices_values arms

  pub choices_values : Choices → List ℕ
  choices_values none = []
  choices_values (arm c body others) = c.0 ∷ (block_values body ++ choices_values others)

  pub block_values : Block → List ℕ
  block_values done = []
  block_values (next s rest) = statement_values s ++ block_values rest

-- ---- modules

-- the data of read ports
abbrev pub data_signals : List Memory → List ℕ
data_signals ms = flat_map (λ (m : Memory). map (λ (r : MemRead). r.word.0) m.reads) ms

-- the expressions that a module reads: right sides and conditions, offsets and indices of targets, and those of memory ports
abbrev pub read_roots : Pooled → List Process → List Memory → List ℕ
read_roots pool ps ms =
    flat_map (λ (p : Process). block_values p.body) ps ++ (flat_map (offsets_in pool) (flat_map (λ (p : Process). block_targets p.body) ps) ++ numbers (flat_map memory_exprs ms))

-- a signal is read by a module
abbrev pub is_read : Pooled → List Process → List Memory → ℕ → Bool
is_read pool ps ms s = is_among (flat_map (signals_in pool) (read_roots pool ps ms)) s

-- a signal is driven by a process
abbrev pub is_driven : Pooled → List Process → ℕ → Bool
is_driven pool ps s = list_any (λ (p : Process). is_among (driven pool p.body) s) ps

-- a process drives it, or it is the data of a read port
abbrev pub is_given : Pooled → List Process → List Memory → ℕ → Bool
is_given pool ps ms s = is_driven pool ps s || is_among (data_signals ms) s
