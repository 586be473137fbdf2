use Rattle.std.proofs.Common.{◌≡◌}
use Rattle.fragment_walks.specs.Names.{with_resets}
use Rattle.fragment_walks.proofs.names.add_resets.Given as goal

abbrev pub invariant-loop-k : goal.invariant-loop-k
invariant-loop-k l = l.names.items ≡ with_resets l.pool l.holders l.k 0 l.fn.names.items
