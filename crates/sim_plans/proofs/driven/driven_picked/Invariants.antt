use Rattle.std.proofs.Common.{◌≡◌, ◌<◌, ◌++◌, [], length, drop, slice_index_or}
use Rattle.std.specs.List.{AllByRecursion}
use Rattle.design_ir.specs.Guards.{block_exprs}
use Rattle.design_ir.specs.Trees.{statements}
use Rattle.sim_plans.specs.Driven.{listed}
use Rattle.sim_plans.specs.Reading.{AreBelow}
use Rattle.sim_plans.specs.Tasks.{picked}
use Rattle.sim_plans.proofs.driven.driven_picked.Given as goal

abbrev pub invariant-loop-i : goal.invariant-loop-i
invariant-loop-i l = record {
  inside : AllByRecursion (λ i. i < length (statements l.body)) (drop l.i-index l.places);
  there : AreBelow (length l.targets) (block_exprs (picked l.body (drop l.i-index l.places)));
  all : l.signals ++ listed (λ k. slice_index_or l.targets k []) (picked l.body (drop l.i-index l.places)) ≡ listed (λ k. slice_index_or l.targets k []) (picked l.body l.places);
}
