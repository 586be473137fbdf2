-- What the statements of the code are as trees.
use Rattle.std.specs.Prelude.{List, [], ◌∷◌}
use Rattle.design_ir.specs.Trees.{Statement, assign, choose, Choices, none, arm, Block, done, next}
use Rattle.design_ir.specs.declared.stmt.Stmt.{Stmt}
use Rattle.design_ir.specs.declared.stmt.Stmt.TheVariants.{Assign, Choose}
use Rattle.design_ir.specs.declared.stmt.Arm.{Arm}

abbrev pub statement_of : Stmt → Statement
statement_of (Assign t v p) = assign t v p
statement_of (Choose c) = choose c

abbrev pub block_of : List Stmt → Block
block_of [] = done
block_of (s ∷ ss) = next (statement_of s) (block_of ss)

abbrev pub choices_of : List Arm → Choices
choices_of [] = none
choices_of (a ∷ rest) = arm a.condition a.body (choices_of rest)
