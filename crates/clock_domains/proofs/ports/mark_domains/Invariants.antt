use Rattle.std.proofs.Common.{take}
use Rattle.std.specs.List.{flat_map}
use Rattle.clock_domains.specs.Resolved.{domain_inputs}
use Rattle.clock_domains.proofs.PortLaws.{IsMarking}
use Rattle.clock_domains.proofs.ports.mark_domains.Given as goal

abbrev pub invariant-loop-domain : goal.invariant-loop-domain
invariant-loop-domain l = IsMarking l.fn.marks.items (flat_map domain_inputs (take l.domain-index l.domains)) l.marks.items
