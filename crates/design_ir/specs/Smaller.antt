-- No statement below is larger than the tree that holds it.
use Rattle.std.specs.Prelude.{◌≤◌, List, [], ◌∷◌}
use Rattle.std.proofs.Common.{arith}
use denote.Param.Weighed.{most}
use Rattle.design_ir.specs.Trees.{block_size, choices_size}
use Rattle.design_ir.specs.Statements.{block_of, choices_of}
use Rattle.design_ir.specs.declared.stmt.Stmt.{Stmt}
use Rattle.design_ir.specs.declared.stmt.Stmt.TheVariants.{Assign, Choose}
use Rattle.design_ir.specs.declared.stmt.Arm.{Arm}
use Rattle.design_ir.specs.declared.stmt.Arms.TheDeep.{deep-Stmt, deep-Arm}

pub block_falls : (ss : List Stmt) → most deep-Stmt ss ≤ block_size (block_of ss)
block_falls [] = omega arith
block_falls (Assign t v p ∷ ss) = omega (arith, block_falls ss)
block_falls (Choose c ∷ ss) = omega (arith, block_falls ss)

pub choices_fall : (ss : List Arm) → most deep-Arm ss ≤ choices_size (choices_of ss)
choices_fall [] = omega arith
choices_fall (a ∷ ss) = omega (arith, choices_fall ss)
