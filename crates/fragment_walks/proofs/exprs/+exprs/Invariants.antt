use Rattle.std.proofs.Common.{◌≡◌, ◌++◌, take}
use Rattle.design_ir.specs.Statements.{statement_of, block_of, choices_of}
use Rattle.design_ir.specs.Guards.{block_exprs, choices_exprs}
use Rattle.design_ir.specs.Trees.{block_size, choices_size, statement_size}
use Rattle.fragment_walks.proofs.exprs.+exprs.Given as goal

abbrev pub decreases-add_arms : goal.decreases-add_arms
decreases-add_arms l = choices_size l.arms.now

abbrev pub decreases-add_block : goal.decreases-add_block
decreases-add_block l = block_size l.body.now

abbrev pub decreases-add_statement : goal.decreases-add_statement
decreases-add_statement l = statement_size (statement_of l.statement.now)

abbrev pub invariant-add_arms-loop-arm : goal.invariant-add_arms-loop-arm
invariant-add_arms-loop-arm l = l.ids ≡ l.fn.ids ++ choices_exprs (choices_of (take l.arm-index l.arm-items))

abbrev pub invariant-add_block-loop-statement : goal.invariant-add_block-loop-statement
invariant-add_block-loop-statement l = l.ids ≡ l.fn.ids ++ block_exprs (block_of (take l.statement-index l.statement-items))
