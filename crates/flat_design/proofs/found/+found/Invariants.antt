use Rattle.std.specs.Prelude.{ℕ, List, ◌++◌, take, length}
use Rattle.design_ir.specs.Trees.{block_size, choices_size, statement_size}
use Rattle.design_ir.specs.Statements.{statement_of, block_of, choices_of}
use Rattle.design_ir.specs.Guards.{Guard, guarded, guarded_arms}
use Rattle.flat_design.specs.Found.{AreFound, targets_of}
use Rattle.flat_design.proofs.found.+found.Given as goal

abbrev pub decreases-add_arms : goal.decreases-add_arms
decreases-add_arms l = choices_size l.arms.now

abbrev pub decreases-add_block : goal.decreases-add_block
decreases-add_block l = block_size l.body.now

abbrev pub decreases-add_statement : goal.decreases-add_statement
decreases-add_statement l = statement_size (statement_of l.statement.now)

abbrev pub invariant-add_arms-loop-arm : goal.invariant-add_arms-loop-arm
invariant-add_arms-loop-arm l = (gs : List Guard) (ss : List ℕ) → AreFound (length l.design.pool.signals) ss l.initial.found.marks.items l.initial.found.signals
    → AreFound (length l.design.pool.signals) (ss ++ targets_of l.design.pool (guarded_arms gs (choices_of (take l.arm-index l.arm-items)))) l.found.marks.items l.found.signals

abbrev pub invariant-add_block-loop-statement : goal.invariant-add_block-loop-statement
invariant-add_block-loop-statement l = (gs : List Guard) (ss : List ℕ) → AreFound (length l.design.pool.signals) ss l.initial.found.marks.items l.initial.found.signals
    → AreFound (length l.design.pool.signals) (ss ++ targets_of l.design.pool (guarded gs (block_of (take l.statement-index l.statement-items)))) l.found.marks.items l.found.signals
