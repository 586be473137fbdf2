use Rattle.std.proofs.Common.{◌≡◌, ◌++◌, map, take}
use Rattle.std.specs.List.{filter}
use Rattle.fragment_walks.specs.Marks.{is_marked}
use Rattle.clock_domains.specs.Resolved.{held_port}
use Rattle.clock_domains.specs.Chosen.{is_new}
use Rattle.clock_domains.proofs.ports.add_held.Given as goal

abbrev pub invariant-loop-port : goal.invariant-loop-port
invariant-loop-port l = l.ports ≡ l.fn.ports ++ filter (is_new l.pool (is_marked l.known.is_port.items)) (map (held_port l.domains (is_marked l.known.driven.items)) (take l.port-index l.given))
