use Rattle.std.proofs.Common.{◌≡◌, length, drop}
use Rattle.design_ir.specs.Steps.{reset_all}
use Rattle.sim_plans.specs.Driven.{numbers_of}
use Rattle.delta_sim.proofs.clocks.reset_all.Given as goal

abbrev pub invariant-loop-s : goal.invariant-loop-s
invariant-loop-s l = record {
  signals : length l.cur ≡ length l.design.pool.signals;
  all : reset_all l.design.pool.signals l.cur (numbers_of (drop l.s-index l.signals)) ≡ reset_all l.design.pool.signals l.fn.cur (numbers_of l.signals);
}
