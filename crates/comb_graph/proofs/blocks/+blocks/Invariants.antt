use Rattle.std.proofs.Common.{◌<◌, take}
use Rattle.design_ir.specs.Statements.{statement_of, block_of, choices_of}
use Rattle.design_ir.specs.Trees.{block_size, choices_size, statement_size}
use Rattle.comb_graph.specs.Meanings.{Extends}
use Rattle.comb_graph.specs.Places.{bit_nodes}
use Rattle.comb_graph.specs.Rules.{AddsBlock, AddsArms, MeansPassed}
use Rattle.comb_graph.proofs.blocks.+blocks.Given as goal

abbrev pub decreases-add_arms : goal.decreases-add_arms
decreases-add_arms l = choices_size l.arms.now

abbrev pub decreases-add_block : goal.decreases-add_block
decreases-add_block l = block_size l.body.now

abbrev pub decreases-add_statement : goal.decreases-add_statement
decreases-add_statement l = statement_size (statement_of l.statement.now)

abbrev pub invariant-add_arms-loop-arm : goal.invariant-add_arms-loop-arm
invariant-add_arms-loop-arm l = record {
  extends : Extends l.fn.graph l.graph (bit_nodes l.design.pool);
  inside : l.inner < l.graph.size;
  rules : AddsArms l.fn.graph l.graph l.design.pool l.guard (choices_of (take l.arm-index l.arm-items));
  means : MeansPassed l.fn.graph l.graph l.design.pool l.guard l.inner (choices_of (take l.arm-index l.arm-items));
}

abbrev pub invariant-add_block-loop-statement : goal.invariant-add_block-loop-statement
invariant-add_block-loop-statement l = record {
  extends : Extends l.fn.graph l.graph (bit_nodes l.design.pool);
  rules : AddsBlock l.fn.graph l.graph l.design.pool l.guard (block_of (take l.statement-index l.statement-items));
}
