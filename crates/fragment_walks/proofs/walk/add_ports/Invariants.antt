use Rattle.std.proofs.Common.{◌≡◌, ◌++◌, take}
use Rattle.std.specs.List.{flat_map}
use Rattle.fragment_walks.specs.Walks.{port_names}
use Rattle.fragment_walks.proofs.walk.add_ports.Given as goal

abbrev pub invariant-loop-memory : goal.invariant-loop-memory
invariant-loop-memory l = l.names ≡ l.fn.names ++ flat_map port_names (take l.memory-index l.memories)
