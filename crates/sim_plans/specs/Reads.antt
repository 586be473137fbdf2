-- Which signals statements read: those that stand in their right sides and conditions, and in the offsets and indices of
-- their targets (Amaranth guide, Simulation: a combinational process is run again when a signal that it reads changes).
-- A signal is read as a whole.
use Rattle.std.specs.Prelude.{ℕ, ◌==◌, ◌||◌, Bool, false}
use Rattle.std.specs.List.{list_any}
use Rattle.design_ir.specs.declared.ids.ExprId.{ExprId}
use Rattle.design_ir.specs.declared.expr.Expr as expr
use Rattle.design_ir.specs.declared.expr.Expr.{Expr}
use Rattle.design_ir.specs.declared.expr.Expr.TheVariants.{Const, Unary, Binary, Mux, Slice, Cat, Part, Pick, Cast, Matches, Reset}
use Rattle.design_ir.specs.Named.{named}
use Rattle.design_ir.specs.Pools.{Pooled, answer}
use Rattle.design_ir.specs.Trees.{Statement, assign, choose, Choices, none, arm, Block, done, next}

-- the signal itself, or what names an expression in which it stands
abbrev pub stands_step : ℕ → (ℕ → Bool) → Expr → Bool
stands_step s stands (expr.TheVariants.Sig x) = x.0 == s
stands_step s stands (Const n f) = false
stands_step s stands (Unary op a) = list_any (λ (e : ExprId). stands e.0) (named (Unary op a))
stands_step s stands (Binary op a b) = list_any (λ (e : ExprId). stands e.0) (named (Binary op a b))
stands_step s stands (Mux i a b) = list_any (λ (e : ExprId). stands e.0) (named (Mux i a b))
stands_step s stands (Slice a low width) = list_any (λ (e : ExprId). stands e.0) (named (Slice a low width))
stands_step s stands (Cat es) = list_any (λ (e : ExprId). stands e.0) es
stands_step s stands (Part a offset width stride) = list_any (λ (e : ExprId). stands e.0) (named (Part a offset width stride))
stands_step s stands (Pick index es) = list_any (λ (e : ExprId). stands e.0) (named (Pick index es))
stands_step s stands (Cast a signed) = list_any (λ (e : ExprId). stands e.0) (named (Cast a signed))
stands_step s stands (Matches a patterns) = list_any (λ (e : ExprId). stands e.0) (named (Matches a patterns))
stands_step s stands (Reset domain place) = false

-- the signal stands in expression k
unfoldable pub stands_in : Pooled → ℕ → ℕ → Bool
stands_in pool s k = answer false (stands_step s) pool.exprs k

-- in an offset or an index of a target
abbrev pub placing_step : Pooled → ℕ → (ℕ → Bool) → Expr → Bool
placing_step pool s places (Slice a low width) = places a.0
placing_step pool s places (Cat es) = list_any (λ (e : ExprId). places e.0) es
placing_step pool s places (Part a offset width stride) = stands_in pool s offset.0 || places a.0
placing_step pool s places (Pick index es) = stands_in pool s index.0 || list_any (λ (e : ExprId). places e.0) es
placing_step pool s places (Cast a signed) = places a.0
placing_step pool s places (Const n f) = false
placing_step pool s places (expr.TheVariants.Sig x) = false
placing_step pool s places (Unary op a) = false
placing_step pool s places (Binary op a b) = false
placing_step pool s places (Mux i a b) = false
placing_step pool s places (Matches a patterns) = false
placing_step pool s places (Reset domain place) = false

-- the signal stands in an offset or an index of the target k
unfoldable pub places : Pooled → ℕ → ℕ → Bool
places pool s k = answer false (placing_step pool s) pool.exprs k

-- statements read the signal
abbrev mutual
  pub statement_reads : Pooled → ℕ → Statement → Bool
  statement_reads pool s (assign target value place) = places pool s target.0 || stands_in pool s value.0
  statement_reads pool s (choose arms) = choices_read pool s arms

  pub choices_read : Pooled → ℕ → Choices → Bool
  choices_read pool s none = false
  choices_read pool s (arm condition body others) = stands_in pool s condition.0 || (block_reads pool s body || choices_read pool s others)

  pub block_reads : Pooled → ℕ → Block → Bool
  block_reads pool s done = false
  block_reads pool s (next x rest) = statement_reads pool s x || block_reads pool s rest
