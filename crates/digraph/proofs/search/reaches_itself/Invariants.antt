use Rattle.std.proofs.Common.{◌≡◌}
use Rattle.digraph.specs.Searches.{IsSearch, turns}
use Rattle.digraph.proofs.search.reaches_itself.Given as goal

abbrev pub invariant-loop-from : goal.invariant-loop-from
invariant-loop-from l = record {
  root : l.search.root ≡ l.node;
  search : IsSearch l.graph l.search.root l.search.reached l.search.todo;
}

abbrev pub decreases-loop-from : goal.decreases-loop-from
decreases-loop-from l = turns l.search
