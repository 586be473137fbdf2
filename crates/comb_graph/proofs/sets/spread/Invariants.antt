use Rattle.std.proofs.Common.{◌≡◌, ℕ, ◌+◌, ◌*◌}
use Rattle.std.specs.List.{list_any, range_with_len}
use Rattle.comb_graph.specs.Sets.{has}
use Rattle.comb_graph.proofs.sets.spread.Given as goal

abbrev pub invariant-loop-i : goal.invariant-loop-i
invariant-loop-i l = (k : ℕ) → has l.all k ≡ list_any (λ o. has l.set (o * l.stride + k)) (range_with_len l.offset.least l.i)
