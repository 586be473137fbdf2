use Rattle.std.proofs.Common.{◌≡◌, take}
use Rattle.std.specs.List.{flat_map}
use Rattle.fragment_walks.specs.Marks.{is_marked}
use Rattle.clock_domains.specs.Resolved.{ports_of_domain}
use Rattle.clock_domains.proofs.ports.domain_ports.Given as goal

abbrev pub invariant-loop-domain : goal.invariant-loop-domain
invariant-loop-domain l = l.ports ≡ flat_map (ports_of_domain l.pool l.domains (is_marked l.driven)) (take l.domain-index l.domains)
