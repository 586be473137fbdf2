use Rattle.std.proofs.Common.{◌≡◌, ◌++◌}
use Rattle.std.specs.List.{filter, filter_map, range_with_len}
use Rattle.fragment_walks.specs.Marks.{is_marked}
use Rattle.clock_domains.specs.Chosen.{is_new, known_port}
use Rattle.clock_domains.proofs.ports.add_loose.Given as goal

abbrev pub invariant-loop-s : goal.invariant-loop-s
invariant-loop-s l =
    l.ports ≡ l.fn.ports ++ filter (is_new l.pool (is_marked l.known.is_port.items)) (filter_map (known_port l.pool l.domains (is_marked l.known.own.items) (is_marked l.known.driven.items) (is_marked l.known.read.items)) (range_with_len 0 l.s))
