use Rattle.std.proofs.Common.{take}
use Rattle.clock_domains.proofs.PortLaws.{IsMarking}
use Rattle.clock_domains.specs.Resolved.{signals_of}
use Rattle.clock_domains.proofs.ports.mark_ports.Given as goal

abbrev pub invariant-loop-port : goal.invariant-loop-port
invariant-loop-port l = IsMarking l.initial.marks.items (signals_of (take l.port-index l.ports)) l.marks.items
