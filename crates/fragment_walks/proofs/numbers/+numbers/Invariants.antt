use Rattle.std.proofs.Common.{◌≡◌, take}
use Rattle.design_ir.specs.Statements.{statement_of, block_of, choices_of}
use Rattle.design_ir.specs.Trees.{block_size, choices_size, statement_size}
use Rattle.fragment_walks.specs.Numbers.{lowered}
use Rattle.fragment_walks.specs.Reads.{block_targets, choices_targets}
use Rattle.fragment_walks.proofs.numbers.+numbers.Given as goal

abbrev pub decreases-lower_arms : goal.decreases-lower_arms
decreases-lower_arms l = choices_size l.arms.now

abbrev pub decreases-lower_block : goal.decreases-lower_block
decreases-lower_block l = block_size l.body.now

abbrev pub decreases-lower_statement : goal.decreases-lower_statement
decreases-lower_statement l = statement_size (statement_of l.statement.now)

abbrev pub invariant-lower_arms-loop-arm : goal.invariant-lower_arms-loop-arm
invariant-lower_arms-loop-arm l = l.targets.items ≡ lowered (choices_targets (choices_of (take l.arm-index l.arm-items))) l.number l.fn.targets.items

abbrev pub invariant-lower_block-loop-statement : goal.invariant-lower_block-loop-statement
invariant-lower_block-loop-statement l = l.targets.items ≡ lowered (block_targets (block_of (take l.statement-index l.statement-items))) l.number l.fn.targets.items
