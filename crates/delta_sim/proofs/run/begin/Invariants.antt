use Rattle.std.proofs.Common.{◌≡◌, length, drop}
use Rattle.design_ir.proofs.NumbersFit.{FitsSignals}
use Rattle.sim_plans.specs.Driven.{numbers_of}
use Rattle.sim_plans.specs.Plans.{begun}
use Rattle.delta_sim.proofs.run.begin.Given as goal

abbrev pub invariant-loop-s : goal.invariant-loop-s
invariant-loop-s l = record {
  count : length l.cur ≡ length l.design.pool.signals;
  fits : FitsSignals l.design.pool l.cur;
  all : begun l.design.pool.signals l.cur (numbers_of (drop l.s-index l.signals)) ≡ begun l.design.pool.signals l.initial.cur (numbers_of l.signals);
}
