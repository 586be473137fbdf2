use Rattle.std.proofs.Common.{◌≡◌, drop, fold}
use Rattle.design_ir.specs.Steps.{clock_low}
use Rattle.delta_sim.proofs.sim.lower_clocks.Given as goal

abbrev pub invariant-loop-d : goal.invariant-loop-d
invariant-loop-d l = fold clock_low l.held (drop l.d l.design.domains) ≡ fold clock_low l.fn.held l.design.domains
