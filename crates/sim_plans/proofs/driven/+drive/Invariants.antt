use Rattle.std.proofs.Common.{◌≡◌, ◌++◌, length, drop, slice_index_or, []}
use Rattle.design_ir.specs.Guards.{block_exprs, choices_exprs}
use Rattle.design_ir.specs.Trees.{block_size, statement_size, choices_size}
use Rattle.design_ir.specs.Statements.{statement_of, block_of, choices_of}
use Rattle.sim_plans.specs.Driven.{listed, choices_listed}
use Rattle.sim_plans.specs.Reading.{AreBelow}
use Rattle.sim_plans.proofs.driven.+drive.Given as goal

abbrev pub decreases-add_arms : goal.decreases-add_arms
decreases-add_arms l = choices_size l.arms.now

abbrev pub decreases-add_body : goal.decreases-add_body
decreases-add_body l = block_size l.body.now

abbrev pub decreases-add_stmt : goal.decreases-add_stmt
decreases-add_stmt l = statement_size (statement_of l.s.now)

abbrev pub invariant-add_arms-loop-arm : goal.invariant-add_arms-loop-arm
invariant-add_arms-loop-arm l = record {
  there : AreBelow (length l.targets) (choices_exprs (choices_of (drop l.arm-index l.arm-items)));
  all : l.signals ++ choices_listed (λ k. slice_index_or l.targets k []) (choices_of (drop l.arm-index l.arm-items)) ≡ l.fn.signals ++ choices_listed (λ k. slice_index_or l.targets k []) l.arms;
}

abbrev pub invariant-add_body-loop-s : goal.invariant-add_body-loop-s
invariant-add_body-loop-s l = record {
  there : AreBelow (length l.targets) (block_exprs (block_of (drop l.s-index l.s-items)));
  all : l.signals ++ listed (λ k. slice_index_or l.targets k []) (block_of (drop l.s-index l.s-items)) ≡ l.fn.signals ++ listed (λ k. slice_index_or l.targets k []) l.body;
}
