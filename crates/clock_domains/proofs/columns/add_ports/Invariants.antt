use Rattle.std.proofs.Common.{◌≡◌, ◌++◌, map, take}
use Rattle.clock_domains.specs.Tracked.{IsTracked, names_of}
use Rattle.clock_domains.specs.Resolved.{columns_after, column_of_port}
use Rattle.clock_domains.proofs.columns.add_ports.Given as goal

abbrev pub invariant-loop-port : goal.invariant-loop-port
invariant-loop-port l = record {
  columns : l.columns ≡ l.fn.columns ++ columns_after (names_of l.fn.columns) (map column_of_port (take l.port-index l.ports));
  tracked : IsTracked l.numbers l.columns;
}
