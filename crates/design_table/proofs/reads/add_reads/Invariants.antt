use Rattle.std.proofs.Common.{◌≡◌, ◌++◌, map, take}
use Rattle.design_table.specs.MemoryTests.{given_port}
use Rattle.design_table.proofs.reads.add_reads.Given as goal

abbrev pub invariant-loop-read : goal.invariant-loop-read
invariant-loop-read l = l.ports ≡ l.fn.ports ++ map given_port (take l.read-index l.reads)
