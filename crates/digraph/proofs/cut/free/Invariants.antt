use Rattle.std.proofs.Common.{◌<◌, All, length}
use Rattle.digraph.proofs.cut.free.Given as goal

abbrev pub invariant-loop-node : goal.invariant-loop-node
invariant-loop-node l = All (λ n. n < length l.counts) l.free.items
