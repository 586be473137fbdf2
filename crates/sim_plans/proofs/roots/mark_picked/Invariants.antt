use Rattle.std.proofs.Common.{◌≡◌, ◌<◌, length, drop}
use Rattle.std.specs.List.{AllByRecursion}
use Rattle.design_ir.specs.Guards.{block_exprs}
use Rattle.design_ir.specs.Trees.{statements}
use Rattle.sim_plans.specs.Given.{marked}
use Rattle.sim_plans.specs.Reading.{AreBelow}
use Rattle.sim_plans.specs.Tasks.{picked, places_of, block_targets, block_values}
use Rattle.sim_plans.proofs.roots.mark_picked.Given as goal

abbrev pub invariant-loop-i : goal.invariant-loop-i
invariant-loop-i l = record {
  same_aims : length l.aims.marks ≡ length l.initial.aims.marks;
  same_values : length l.values.marks ≡ length l.initial.values.marks;
  inside : AllByRecursion (λ i. i < length (statements l.body)) (drop l.i-index l.places);
  there : AreBelow (length l.initial.aims.marks) (block_exprs (picked l.body (drop l.i-index l.places)));
  there_too : AreBelow (length l.initial.values.marks) (block_exprs (picked l.body (drop l.i-index l.places)));
  aims : marked (places_of (block_targets (picked l.body (drop l.i-index l.places)))) l.aims.marks ≡ marked (places_of (block_targets (picked l.body l.places))) l.initial.aims.marks;
  values : marked (places_of (block_values (picked l.body (drop l.i-index l.places)))) l.values.marks ≡ marked (places_of (block_values (picked l.body l.places))) l.initial.values.marks;
}
