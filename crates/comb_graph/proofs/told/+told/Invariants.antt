use Rattle.std.proofs.Common.{◌≡◌, List, None, take}
use Rattle.design_ir.specs.Guards.{Guard, guarded, guarded_arms}
use Rattle.design_ir.specs.Statements.{statement_of, block_of, choices_of}
use Rattle.design_ir.specs.Trees.{block_size, choices_size, statement_size}
use Rattle.comb_graph.specs.Rankings.{bit_of}
use Rattle.comb_graph.specs.Told.{first_place}
use Rattle.comb_graph.proofs.told.+told.Given as goal

abbrev pub decreases-in_arms : goal.decreases-in_arms
decreases-in_arms l = choices_size l.arms.now

abbrev pub decreases-in_block : goal.decreases-in_block
decreases-in_block l = block_size l.body.now

abbrev pub decreases-in_statement : goal.decreases-in_statement
decreases-in_statement l = statement_size (statement_of l.statement.now)

abbrev pub invariant-in_arms-loop-arm : goal.invariant-in_arms-loop-arm
invariant-in_arms-loop-arm l = (gs : List Guard) → first_place l.table (bit_of l.bit) (guarded_arms gs (choices_of (take l.arm-index l.arm-items))) ≡ None

abbrev pub invariant-in_block-loop-statement : goal.invariant-in_block-loop-statement
invariant-in_block-loop-statement l = (gs : List Guard) → first_place l.table (bit_of l.bit) (guarded gs (block_of (take l.statement-index l.statement-items))) ≡ None
