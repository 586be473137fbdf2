use Rattle.std.specs.Prelude.{◌++◌, List, map, take}
use Rattle.design_ir.specs.PoolRules.{IsPool}
use Rattle.design_ir.specs.Trees.{block_size, choices_size, statement_size}
use Rattle.design_ir.specs.Statements.{statement_of, block_of, choices_of}
use Rattle.design_ir.specs.Guards.{Guard, guarded, guarded_arms, choices_exprs, block_exprs}
use Rattle.flat_design.specs.Growing.{IsMore}
use Rattle.flat_design.specs.Activity.{IsActive}
use Rattle.flat_design.specs.Shown.{SoFar, AreSlots, after}
use Rattle.flat_design.specs.Begun.{IsBegun, all_hold, all_need}
use Rattle.flat_design.proofs.ShownBlocks.{missed}
use Rattle.flat_design.proofs.blocks.+blocks.Given as goal

abbrev pub decreases-put_arms : goal.decreases-put_arms
decreases-put_arms l = choices_size l.arms.now

abbrev pub decreases-put_block : goal.decreases-put_block
decreases-put_block l = block_size l.body.now

abbrev pub decreases-put_statement : goal.decreases-put_statement
decreases-put_statement l = statement_size (statement_of l.statement.now)

abbrev pub invariant-put_arms-loop-arm : goal.invariant-put_arms-loop-arm
invariant-put_arms-loop-arm l = record {
  more : IsMore l.initial.latest.pool l.latest.pool;
  rules : IsPool l.latest.pool;
  shown : (t : SoFar) (gs : List Guard) → IsBegun t gs l.initial.latest.pool l.initial.latest.slots.items l.initial.rest (choices_exprs l.arms) (guarded_arms gs l.arms) → AreSlots (after t (guarded_arms gs (choices_of (take l.arm-index l.arm-items)))) l.latest.pool l.latest.slots.items;
  rest : (t : SoFar) (gs : List Guard) → IsBegun t gs l.initial.latest.pool l.initial.latest.slots.items l.initial.rest (choices_exprs l.arms) (guarded_arms gs l.arms)
      → IsActive l.latest.pool (all_hold t.pool (gs ++ map missed (take l.arm-index l.arm-items))) (all_need t.pool (gs ++ map missed (take l.arm-index l.arm-items))) l.rest;
}

abbrev pub invariant-put_block-loop-statement : goal.invariant-put_block-loop-statement
invariant-put_block-loop-statement l = record {
  more : IsMore l.initial.latest.pool l.latest.pool;
  rules : IsPool l.latest.pool;
  shown : (t : SoFar) (gs : List Guard) → IsBegun t gs l.initial.latest.pool l.initial.latest.slots.items l.active (block_exprs l.body) (guarded gs l.body) → AreSlots (after t (guarded gs (block_of (take l.statement-index l.statement-items)))) l.latest.pool l.latest.slots.items;
}
