-- What is worked out of some statements of a process.
use Rattle.std.specs.Prelude.{◌≡◌, ℕ, ◌<◌, Bool, true, List, [], ◌∷◌, length, slice_get, Some}
use Rattle.std.specs.List.{AllByRecursion}
use Rattle.design_ir.specs.declared.expr.Expr as expr
use Rattle.design_ir.specs.declared.expr.Expr.{Expr}
use Rattle.design_ir.specs.declared.expr.Expr.TheVariants.{Const, Unary, Binary, Mux, Slice, Cat, Part, Pick, Cast, Matches, Reset}
use Rattle.design_ir.specs.declared.ids.SigId.{SigId}
use Rattle.design_ir.specs.declared.process.DesignProcess.{DesignProcess}
use Rattle.design_ir.specs.Circuits.{Circuit, is_among}
use Rattle.design_ir.specs.Guards.{block_exprs, driven}
use Rattle.design_ir.specs.Pools.{Pooled}
use Rattle.sim_plans.specs.declared.compile.Compiled.{Compiled}
use Rattle.sim_plans.specs.Driven.{numbers_of}
use Rattle.sim_plans.specs.Marks.{is_marked}
use Rattle.sim_plans.specs.Reads.{block_reads}
use Rattle.sim_plans.specs.Tasks.{IsProgram, AreAmong, AreTargetsOf, picked, block_targets}

-- a marked expression is the signal
pub record HoldsSignal (p : Pooled) (marks : List Bool) (s : ℕ) : Type 0 where
  pub k : ℕ
  pub sig : SigId
  pub is : slice_get p.exprs k ≡ Some (expr.TheVariants.Sig sig)
  pub same : sig.0 ≡ s
  pub marked : is_marked marks k ≡ true

-- the task of the statements of process k at these places, and the signals that they read
pub record IsCompiled (c : Circuit) (k : ℕ) (p : DesignProcess) (places : List ℕ) (x : Compiled) : Type 0 where
  pub process : x.task.process ≡ k
  pub statements : x.task.statements ≡ places
  pub program : IsProgram c.pool (length c.pool.exprs) x.task.exprs
  pub computed : AreAmong x.task.exprs (block_exprs (picked p.body places))
  pub targets : AreTargetsOf c.pool (block_targets (picked p.body places))
  pub outs : (s : ℕ) → is_among (numbers_of x.task.outs) s ≡ is_among (driven c.pool (picked p.body places)) s
  pub outs_below : AllByRecursion (λ s. s < length c.pool.signals) (numbers_of x.task.outs)
  pub reads : (s : ℕ) → is_among (numbers_of x.reads) s ≡ block_reads c.pool s (picked p.body places)
  pub reads_below : AllByRecursion (λ s. s < length c.pool.signals) (numbers_of x.reads)

-- the signal that an expression is
abbrev pub own_signal : Expr → List SigId
own_signal (expr.TheVariants.Sig s) = s ∷ []
own_signal (Const n f) = []
own_signal (Unary op a) = []
own_signal (Binary op a b) = []
own_signal (Mux i a b) = []
own_signal (Slice a low width) = []
own_signal (Cat es) = []
own_signal (Part a offset width stride) = []
own_signal (Pick index es) = []
own_signal (Cast a signed) = []
own_signal (Matches a patterns) = []
own_signal (Reset domain place) = []
