-- What a simulator computes at a time: statements of one process, with the expressions that stand in them in an order in
-- which each stands behind those that it names.
use Rattle.std.specs.Prelude.{◌≡◌, ℕ, ◌<◌, ◌≤◌, true, List, [], ◌∷◌, ◌++◌, map, take, length, slice_get, Option, Some, None, ℤ, pos, slice_index_or}
use Rattle.std.specs.List.{AllByRecursion}
use Rattle.amh_bits.specs.Patterns.{IsOf}
use Rattle.design_ir.specs.declared.expr.Expr.{Expr}
use Rattle.design_ir.specs.declared.ids.ExprId.{ExprId}
use Rattle.design_ir.specs.declared.process.DesignProcess.{DesignProcess}
use Rattle.design_ir.specs.Circuits.{Circuit, at, is_among}
use Rattle.design_ir.specs.Guards.{block_exprs, driven}
use Rattle.design_ir.specs.Named.{named}
use Rattle.design_ir.specs.Pools.{Pooled}
use Rattle.design_ir.specs.PoolRules.{IsPool}
use Rattle.design_ir.specs.Put.{put}
use Rattle.design_ir.specs.Targets.{is_target}
use Rattle.design_ir.specs.Trees.{Statement, assign, choose, Choices, none, arm, Block, done, next, statements}
use Rattle.design_ir.specs.Values.{form, num}
use Rattle.sim_plans.specs.declared.task.Task.{Task}
use Rattle.sim_plans.specs.Driven.{numbers_of}

-- ---- some of a process's statements

abbrev pub statement_at : Block → ℕ → Option Statement
statement_at b i = slice_get (statements b) i

abbrev pub and_then : Option Statement → Block → Block
and_then None b = b
and_then (Some s) b = next s b

-- the statements at these places
abbrev pub picked : Block → List ℕ → Block
picked b [] = done
picked b (i ∷ is) = and_then (statement_at b i) (picked b is)

-- ---- expressions in order

-- expressions by number
abbrev pub places_of : List ExprId → List ℕ
places_of es = map (λ (e : ExprId). e.0) es

-- all of these are among those
abbrev pub AreAmong : List ExprId → List ExprId → Type 0
AreAmong list es = AllByRecursion (λ (e : ExprId). is_among (places_of list) e.0 ≡ true) es

-- expressions of a pool of so many, each behind those that it names
pub record IsProgram (p : Pooled) (count : ℕ) (list : List ExprId) : Type 0 where
  pub there : AllByRecursion (λ (e : ExprId). e.0 < count) list
  pub behind : (i : ℕ) (e : ExprId) (x : Expr) → slice_get list i ≡ Some e → slice_get p.exprs e.0 ≡ Some x → AreAmong (take i list) (named x)

-- ---- the targets of statements
abbrev mutual
  pub statement_targets : Statement → List ExprId
  statement_targets (assign target value place) = target ∷ []
  statement_targets (choose arms) = choices_targets arms

  pub choices_targets : Choices → List ExprId
  choices_targets none = []
  choices_targets (arm condition body others) = block_targets body ++ choices_targets others

  pub block_targets : Block → List ExprId
  block_targets done = []
  block_targets (next s rest) = statement_targets s ++ block_targets rest

-- ---- the right sides and conditions of statements
abbrev mutual
  pub statement_values : Statement → List ExprId
  statement_values (assign target value place) = value ∷ []
  statement_values (choose arms) = choices_values arms

  pub choices_values : Choices → List ExprId
  choices_values none = []
  choices_values (arm condition body others) = condition ∷ (block_values body ++ choices_values others)

  pub block_values : Block → List ExprId
  block_values done = []
  block_values (next s rest) = statement_values s ++ block_values rest

abbrev pub AreTargetsOf : Pooled → List ExprId → Type 0
AreTargetsOf p es = AllByRecursion (λ (e : ExprId). is_target p e.0 ≡ true) es

-- ---- tasks

-- statements of a process that decide what it leaves in the signals that they drive, and all that is to be known of them
pub record IsTask (c : Circuit) (count : ℕ) (t : Task) (p : DesignProcess) : Type 0 where
  pub process : slice_get c.processes t.process ≡ Some p
  pub inside : AllByRecursion (λ i. i < length (statements p.body)) t.statements
  pub outs : (s : ℕ) → is_among (numbers_of t.outs) s ≡ is_among (driven c.pool (picked p.body t.statements)) s
  pub drives : (s : ℕ) → is_among (numbers_of t.outs) s ≡ true → is_among (driven c.pool p.body) s ≡ true
  pub same : (env cur : List ℤ) (s : ℕ) → is_among (numbers_of t.outs) s ≡ true → at (put c.pool env p.body cur) s ≡ at (put c.pool env (picked p.body t.statements) cur) s
  pub program : IsProgram c.pool count t.exprs
  pub computed : AreAmong t.exprs (block_exprs (picked p.body t.statements))
  pub targets : AreTargetsOf c.pool (block_targets (picked p.body t.statements))

-- ---- what is read by a task

-- the integers of the first so many expressions, or others of their shapes
pub record AreFitting (p : Pooled) (nums : List ℤ) : Type 0 where
  pub few : length nums ≤ length p.exprs
  pub fits : (k : ℕ) → k < length nums → IsOf (form p k).signed (form p k).width (slice_index_or nums k (pos 0))

-- the integers of these expressions are known, and so are those that they name
pub record IsRead (p : Pooled) (env nums : List ℤ) (list : List ExprId) : Type 0 where
  pub rules : IsPool p
  pub few : length nums ≤ length p.exprs
  pub program : IsProgram p (length nums) list
  pub numbers : (k : ℕ) → is_among (places_of list) k ≡ true → slice_index_or nums k (pos 0) ≡ num p env k
