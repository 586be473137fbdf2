use Rattle.std.proofs.Common.{take}
use Rattle.std.specs.List.{filter}
use Rattle.design_ir.specs.declared.port.Port.{Port}
use Rattle.clock_domains.specs.Resolved.{signals_of}
use Rattle.clock_domains.proofs.PortLaws.{IsMarking}
use Rattle.clock_domains.proofs.ports.mark_inputs.Given as goal

abbrev pub invariant-loop-port : goal.invariant-loop-port
invariant-loop-port l = IsMarking l.fn.marks.items (signals_of (filter (λ (p : Port). p.is_input) (take l.port-index l.ports))) l.marks.items
