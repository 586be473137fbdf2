use Rattle.std.proofs.Common.{◌≡◌, ◌<◌, ◌⊎◌, ℕ, length, drop}
use Rattle.std.specs.List.{AllByRecursion}
use Rattle.design_ir.specs.Circuits.{at}
use Rattle.sim_plans.specs.Driven.{numbers_of}
use Rattle.sim_plans.specs.Plans.{Notes, Wakes, taken}
use Rattle.delta_sim.proofs.wake.take.Given as goal

abbrev pub invariant-loop-s : goal.invariant-loop-s
invariant-loop-s l = record {
  count : length l.env.items ≡ length l.initial.env.items;
  below : AllByRecursion (λ s. s < length l.initial.env.items) (numbers_of (drop l.s-index l.signals));
  once : (t : ℕ) → (at l.initial.env.items t ≡ at l.env.items t) ⊎ (at l.env.items t ≡ at l.from t);
  all : taken l.from (numbers_of (drop l.s-index l.signals)) l.env.items ≡ taken l.from (numbers_of l.signals) l.initial.env.items;
  waits : Wakes l.plan.readers l.initial.env.items l.env.items l.initial.waits.marks l.waits.marks;
  woken : Wakes l.plan.processes l.initial.env.items l.env.items l.initial.woken.marks l.woken.marks;
  moved : Notes l.initial.env.items l.env.items l.initial.moved.marks l.moved.marks;
}
