use Rattle.std.proofs.Common.{◌≡◌, length, drop}
use Rattle.design_ir.specs.Guards.{block_exprs, choices_exprs}
use Rattle.design_ir.specs.Trees.{block_size, statement_size, choices_size}
use Rattle.design_ir.specs.Statements.{statement_of, block_of, choices_of}
use Rattle.sim_plans.specs.Given.{marked}
use Rattle.sim_plans.specs.Reading.{AreBelow}
use Rattle.sim_plans.specs.Tasks.{places_of, block_targets, choices_targets, block_values, choices_values}
use Rattle.sim_plans.proofs.roots.+roots.Given as goal

abbrev pub decreases-mark_arms : goal.decreases-mark_arms
decreases-mark_arms l = choices_size l.arms.now

abbrev pub decreases-mark_body : goal.decreases-mark_body
decreases-mark_body l = block_size l.body.now

abbrev pub decreases-mark_stmt : goal.decreases-mark_stmt
decreases-mark_stmt l = statement_size (statement_of l.s.now)

abbrev pub invariant-mark_arms-loop-arm : goal.invariant-mark_arms-loop-arm
invariant-mark_arms-loop-arm l = record {
  same_aims : length l.aims.marks ≡ length l.initial.aims.marks;
  same_values : length l.values.marks ≡ length l.initial.values.marks;
  there : AreBelow (length l.initial.aims.marks) (choices_exprs (choices_of (drop l.arm-index l.arm-items)));
  there_too : AreBelow (length l.initial.values.marks) (choices_exprs (choices_of (drop l.arm-index l.arm-items)));
  aims : marked (places_of (choices_targets (choices_of (drop l.arm-index l.arm-items)))) l.aims.marks ≡ marked (places_of (choices_targets l.arms)) l.initial.aims.marks;
  values : marked (places_of (choices_values (choices_of (drop l.arm-index l.arm-items)))) l.values.marks ≡ marked (places_of (choices_values l.arms)) l.initial.values.marks;
}

abbrev pub invariant-mark_body-loop-s : goal.invariant-mark_body-loop-s
invariant-mark_body-loop-s l = record {
  same_aims : length l.aims.marks ≡ length l.initial.aims.marks;
  same_values : length l.values.marks ≡ length l.initial.values.marks;
  there : AreBelow (length l.initial.aims.marks) (block_exprs (block_of (drop l.s-index l.s-items)));
  there_too : AreBelow (length l.initial.values.marks) (block_exprs (block_of (drop l.s-index l.s-items)));
  aims : marked (places_of (block_targets (block_of (drop l.s-index l.s-items)))) l.aims.marks ≡ marked (places_of (block_targets l.body)) l.initial.aims.marks;
  values : marked (places_of (block_values (block_of (drop l.s-index l.s-items)))) l.values.marks ≡ marked (places_of (block_values l.body)) l.initial.values.marks;
}
