use Rattle.std.proofs.Common.{◌≡◌, take}
use Rattle.design_ir.specs.Statements.{statement_of, block_of, choices_of}
use Rattle.design_ir.specs.Guards.{block_exprs, choices_exprs}
use Rattle.design_ir.specs.Trees.{block_size, choices_size, statement_size}
use Rattle.fragment_walks.specs.Marks.{marked, numbers}
use Rattle.domain_transforms.proofs.roots.+roots.Given as goal

abbrev pub decreases-mark_arms : goal.decreases-mark_arms
decreases-mark_arms l = choices_size l.arms.now

abbrev pub decreases-mark_block : goal.decreases-mark_block
decreases-mark_block l = block_size l.body.now

abbrev pub decreases-mark_statement : goal.decreases-mark_statement
decreases-mark_statement l = statement_size (statement_of l.statement.now)

abbrev pub invariant-mark_arms-loop-arm : goal.invariant-mark_arms-loop-arm
invariant-mark_arms-loop-arm l = l.marks.items ≡ marked (numbers (choices_exprs (choices_of (take l.arm-index l.arm-items)))) l.fn.marks.items

abbrev pub invariant-mark_block-loop-statement : goal.invariant-mark_block-loop-statement
invariant-mark_block-loop-statement l = l.marks.items ≡ marked (numbers (block_exprs (block_of (take l.statement-index l.statement-items)))) l.fn.marks.items
