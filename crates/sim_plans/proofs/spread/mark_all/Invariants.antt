use Rattle.std.proofs.Common.{◌≡◌, length, drop}
use Rattle.design_ir.specs.Named.{AllBelow}
use Rattle.sim_plans.specs.Given.{marked}
use Rattle.sim_plans.specs.Tasks.{places_of}
use Rattle.sim_plans.specs.Waiting.{IsFront}
use Rattle.sim_plans.proofs.spread.mark_all.Given as goal

abbrev pub invariant-loop-e : goal.invariant-loop-e
invariant-loop-e l = record {
  below : AllBelow (length l.marks.marks) (drop l.e-index l.items);
  all : marked (places_of (drop l.e-index l.items)) l.marks.marks ≡ marked (places_of l.items) l.initial.marks.marks;
  list : IsFront l.initial.marks.list l.marks.list;
}
