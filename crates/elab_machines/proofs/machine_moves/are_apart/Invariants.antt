use Rattle.std.proofs.Common.{◌≡◌, ◌+◌, drop}
use Rattle.std.specs.List.{list_all}
use Rattle.elab_machines.specs.StateMachines.{is_apart}
use Rattle.elab_machines.proofs.machine_moves.are_apart.Given as goal

abbrev pub invariant-loop-k : goal.invariant-loop-k
invariant-loop-k l = list_all (is_apart l.machine) (drop l.k l.pool.exprs) ≡ list_all (is_apart l.machine) (drop (l.machine.register.0 + 1) l.pool.exprs)
