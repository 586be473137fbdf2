use Rattle.std.proofs.Common.{◌≡◌, ◌≤◌, ◌++◌, ◌∷◌, []}
use Rattle.digraph.specs.Searches.{IsSearch, IsSpreading, turns}
use Rattle.digraph.proofs.search.Search.spread.Given as goal

abbrev pub invariant-loop-rest : goal.invariant-loop-rest
invariant-loop-rest l = record {
  root : l.self.root ≡ l.fn.self.root;
  search : IsSearch l.graph l.self.root l.self.reached (l.self.todo ++ l.from ∷ []);
  spreading : IsSpreading l.graph l.self.reached l.from l.rest;
  turns : turns l.self ≤ turns l.fn.self;
}

abbrev pub decreases-loop-rest : goal.decreases-loop-rest
decreases-loop-rest l = l.rest
