use Rattle.std.proofs.Common.{◌≡◌, ◌++◌, [], length, map, drop, slice_index_or}
use Rattle.design_ir.specs.Guards.{block_exprs}
use Rattle.design_ir.specs.Statements.{block_of}
use Rattle.design_ir.specs.Trees.{statements}
use Rattle.sim_plans.specs.Driven.{statement_listed}
use Rattle.sim_plans.specs.Reading.{AreBelow}
use Rattle.sim_plans.proofs.driven.driven_each.Given as goal

abbrev pub invariant-loop-s : goal.invariant-loop-s
invariant-loop-s l = record {
  there : AreBelow (length l.targets) (block_exprs (block_of (drop l.s-index l.s-items)));
  all : l.each.items ++ map (statement_listed (λ k. slice_index_or l.targets k [])) (statements (block_of (drop l.s-index l.s-items))) ≡ map (statement_listed (λ k. slice_index_or l.targets k [])) (statements l.body);
}
