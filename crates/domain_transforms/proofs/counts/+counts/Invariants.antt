use Rattle.std.proofs.Common.{◌≡◌, ◌+◌, take}
use Rattle.std.specs.Prelude.{min}
use Rattle.design_ir.specs.Statements.{statement_of, block_of, choices_of}
use Rattle.design_ir.specs.Trees.{block_size, choices_size, statement_size}
use Rattle.domain_transforms.specs.Counted.{block_count, choices_count}
use Rattle.domain_transforms.proofs.counts.+counts.Given as goal

abbrev pub decreases-count_arms : goal.decreases-count_arms
decreases-count_arms l = choices_size l.arms.now

abbrev pub decreases-count_block : goal.decreases-count_block
decreases-count_block l = block_size l.body.now

abbrev pub decreases-count_statement : goal.decreases-count_statement
decreases-count_statement l = statement_size (statement_of l.statement.now)

abbrev pub invariant-count_arms-loop-arm : goal.invariant-count_arms-loop-arm
invariant-count_arms-loop-arm l = l.count ≡ min 65537 (l.initial.count + choices_count (choices_of (take l.arm-index l.arm-items)))

abbrev pub invariant-count_block-loop-statement : goal.invariant-count_block-loop-statement
invariant-count_block-loop-statement l = l.count ≡ min 65537 (l.initial.count + block_count (block_of (take l.statement-index l.statement-items)))
