use Rattle.std.proofs.Common.{◌≡◌, length, take}
use Rattle.sim_plans.specs.Tasks.{AreFitting}
use Rattle.sim_plans.proofs.Programs.{AreKnown}
use Rattle.sim_plans.proofs.compute.compute.Given as goal

abbrev pub invariant-loop-e : goal.invariant-loop-e
invariant-loop-e l = record {
  long : length l.nums.items ≡ length l.initial.nums.items;
  fitting : AreFitting l.design.pool l.nums.items;
  known : AreKnown l.design.pool l.env l.nums.items (take l.e-index l.exprs);
}
