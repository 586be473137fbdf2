use Rattle.std.proofs.Common.{◌≡◌, ◌++◌, drop}
use Rattle.std.specs.List.{flat_map}
use Rattle.sim_plans.specs.Ports.{write_exprs}
use Rattle.sim_plans.proofs.port_exprs.add_writes.Given as goal

abbrev pub invariant-loop-w : goal.invariant-loop-w
invariant-loop-w l = l.es ++ flat_map write_exprs (drop l.w-index l.w-items) ≡ l.initial.es ++ flat_map write_exprs l.ports
