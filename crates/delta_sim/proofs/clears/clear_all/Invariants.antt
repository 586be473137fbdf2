use Rattle.std.proofs.Common.{◌≡◌, ◌<◌, ℕ, false, length, drop, fold}
use Rattle.std.specs.List.{AllByRecursion}
use Rattle.design_ir.specs.declared.process.DesignProcess.{DesignProcess}
use Rattle.design_ir.specs.Guards.{driven}
use Rattle.design_ir.specs.Circuits.{at, is_among}
use Rattle.sim_plans.proofs.Clearing.{cleared_number}
use Rattle.delta_sim.proofs.clears.clear_all.Given as goal

abbrev pub invariant-loop-k : goal.invariant-loop-k
invariant-loop-k l = record {
  there : AllByRecursion (λ k. k < length l.design.processes) (drop l.k-index l.k-items);
  signals : length l.held ≡ length l.design.pool.signals;
  all : fold (cleared_number l.design l.initial.held) l.held (drop l.k-index l.k-items) ≡ fold (cleared_number l.design l.initial.held) l.initial.held l.k-items;
  undriven : (s : ℕ) → AllByRecursion (λ (p : DesignProcess). is_among (driven l.design.pool p.body) s ≡ false) l.design.processes → at l.held s ≡ at l.initial.held s;
}
