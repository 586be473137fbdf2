use Rattle.std.proofs.Common.{◌≡◌, length, drop, fold}
use Rattle.design_ir.specs.Steps.{clocked}
use Rattle.design_ir.proofs.NumbersFit.{FitsSignals}
use Rattle.sim_plans.specs.Tasks.{AreFitting}
use Rattle.delta_sim.proofs.clocks.clock_all.Given as goal

abbrev pub invariant-loop-k : goal.invariant-loop-k
invariant-loop-k l = record {
  signals : length l.held ≡ length l.design.pool.signals;
  fits : FitsSignals l.design.pool l.held;
  count : length l.nums.items ≡ length l.initial.nums.items;
  numbers : AreFitting l.design.pool l.nums.items;
  all : fold (clocked l.design l.env l.listed) l.held (drop l.k l.design.processes) ≡ fold (clocked l.design l.env l.listed) l.initial.held l.design.processes;
}
