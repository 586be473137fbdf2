use Rattle.std.proofs.Common.{◌≡◌, ◌++◌, drop}
use Rattle.std.specs.List.{flat_map}
use Rattle.sim_plans.specs.Ports.{read_exprs}
use Rattle.sim_plans.proofs.port_exprs.add_reads.Given as goal

abbrev pub invariant-loop-r : goal.invariant-loop-r
invariant-loop-r l = l.es ++ flat_map read_exprs (drop l.r-index l.r-items) ≡ l.initial.es ++ flat_map read_exprs l.ports
