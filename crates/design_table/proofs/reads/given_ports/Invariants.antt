use Rattle.std.proofs.Common.{◌≡◌, take}
use Rattle.design_table.specs.MemoryTests.{given_ports}
use Rattle.design_table.proofs.reads.given_ports.Given as goal

abbrev pub invariant-loop-memory : goal.invariant-loop-memory
invariant-loop-memory l = l.ports ≡ given_ports (take l.memory-index l.memories)
