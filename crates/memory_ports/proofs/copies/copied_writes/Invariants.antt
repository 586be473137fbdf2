use Rattle.std.proofs.Common.{◌≡◌, take}
use Rattle.memory_ports.proofs.copies.copied_writes.Given as goal

abbrev pub invariant-loop-port : goal.invariant-loop-port
invariant-loop-port l = l.copy ≡ take l.port-index l.ports
