use Rattle.std.proofs.Common.{◌≡◌, map}
use Rattle.module_dsl.specs.Parting.{process_from}
use Rattle.module_dsl.proofs.builder.processes.Given as goal

abbrev pub invariant-loop-x : goal.invariant-loop-x
invariant-loop-x l = l.list ≡ map (process_from l.steps) l.yielded
