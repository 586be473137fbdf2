use Rattle.std.proofs.Common.{◌≡◌, ◌<◌, length, drop}
use Rattle.std.specs.List.{AllByRecursion}
use Rattle.sim_plans.specs.Given.{marked}
use Rattle.delta_sim.proofs.wake.mark_all.Given as goal

abbrev pub invariant-loop-k : goal.invariant-loop-k
invariant-loop-k l = record {
  below : AllByRecursion (λ k. k < length l.waits.marks) (drop l.k-index l.list);
  all : marked (drop l.k-index l.list) l.waits.marks ≡ marked l.list l.initial.waits.marks;
}
