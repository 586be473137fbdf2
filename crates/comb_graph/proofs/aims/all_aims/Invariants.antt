use Rattle.std.proofs.Common.{◌≡◌, length}
use Rattle.comb_graph.specs.Seen.{HasRows}
use Rattle.comb_graph.proofs.aims.all_aims.Given as goal

abbrev pub invariant-loop-e : goal.invariant-loop-e
invariant-loop-e l = record {
  rows : HasRows l.design.pool l.table;
  count : length l.table ≡ l.e;
}
