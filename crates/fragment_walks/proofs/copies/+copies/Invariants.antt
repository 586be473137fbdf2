use Rattle.std.proofs.Common.{◌≡◌, take}
use Rattle.design_ir.specs.Statements.{statement_of, block_of, choices_of}
use Rattle.design_ir.specs.Trees.{block_size, choices_size, statement_size}
use Rattle.fragment_walks.proofs.copies.+copies.Given as goal

abbrev pub decreases-copied_arms : goal.decreases-copied_arms
decreases-copied_arms l = choices_size l.arms.now

abbrev pub decreases-copied_block : goal.decreases-copied_block
decreases-copied_block l = block_size l.body.now

abbrev pub decreases-copied_statement : goal.decreases-copied_statement
decreases-copied_statement l = statement_size (statement_of l.statement.now)

abbrev pub invariant-copied_arms-loop-arm : goal.invariant-copied_arms-loop-arm
invariant-copied_arms-loop-arm l = l.copy ≡ choices_of (take l.arm-index l.arm-items)

abbrev pub invariant-copied_block-loop-statement : goal.invariant-copied_block-loop-statement
invariant-copied_block-loop-statement l = l.copy ≡ block_of (take l.statement-index l.statement-items)
