use Rattle.std.proofs.Common.{ℕ, ◌<◌}
use Rattle.digraph.specs.Graphs.{EdgeAt}
use Rattle.digraph.specs.Cuts.{IsCutBefore}
use Rattle.digraph.proofs.cut.is_cut.Given as goal

abbrev pub invariant-loop-place : goal.invariant-loop-place
invariant-loop-place l = (k a b : ℕ) → k < l.place → EdgeAt l.graph k a b → IsCutBefore l.turns a b
