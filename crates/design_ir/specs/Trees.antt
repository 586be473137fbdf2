-- Statements, as trees.
use Rattle.std.specs.Prelude.{ℕ, suc, ◌+◌, List, [], ◌∷◌}
use Rattle.amh_host.specs.declared.place.Place.{Place}
use Rattle.design_ir.specs.declared.ids.ExprId.{ExprId}

mutual
  -- one statement: an assignment, or a choice
  pub data Statement : Type 0 where
    assign : (target value : ExprId) (place : Place) → Statement
    choose : Choices → Statement

  -- the arms of a choice
  pub data Choices : Type 0 where
    none : Choices
    arm : (condition : ExprId) → Block → Choices → Choices

  -- statements one after another
  pub data Block : Type 0 where
    done : Block
    next : Statement → Block → Block

-- ---- as lists

-- the statements that stand directly in a block
abbrev pub statements : Block → List Statement
statements done = []
statements (next s rest) = s ∷ statements rest

-- the arms of a choice: a condition and a body each
abbrev pub arms_of : Choices → List (ExprId × Block)
arms_of none = []
arms_of (arm c body rest) = (c, body) ∷ arms_of rest

abbrev pub block_len : Block → ℕ
block_len done = 0
block_len (next s rest) = suc (block_len rest)

abbrev pub choices_len : Choices → ℕ
choices_len none = 0
choices_len (arm c body rest) = suc (choices_len rest)

-- one statement more at the end
abbrev pub block_and : Block → Statement → Block
block_and done s = next s done
block_and (next t rest) s = next t (block_and rest s)

-- one arm more at the end
abbrev pub choices_and : Choices → ExprId → Block → Choices
choices_and none c body = arm c body none
choices_and (arm d other rest) c body = arm d other (choices_and rest c body)

-- ---- sizes: whatever stands in a tree is smaller than it
abbrev mutual
  pub statement_size : Statement → ℕ
  statement_size (assign t v p) = 1
  statement_size (choose c) = suc (choices_size c)

  pub choices_size : Choices → ℕ
  choices_size none = 1
  choices_size (arm c b rest) = suc (block_size b + choices_size rest)

  pub block_size : Block → ℕ
  block_size done = 1
  block_size (next s rest) = suc (statement_size s + block_size rest)
