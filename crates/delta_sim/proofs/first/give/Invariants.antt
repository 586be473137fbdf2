use Rattle.std.proofs.Common.{◌≡◌, length, drop}
use Rattle.sim_plans.specs.Driven.{numbers_of}
use Rattle.sim_plans.specs.Plans.{taken}
use Rattle.delta_sim.proofs.first.give.Given as goal

abbrev pub invariant-loop-s : goal.invariant-loop-s
invariant-loop-s l = record {
  long : length l.env.items ≡ length l.initial.env.items;
  all : taken l.from (numbers_of (drop l.s-index l.signals)) l.env.items ≡ taken l.from (numbers_of l.signals) l.initial.env.items;
}
