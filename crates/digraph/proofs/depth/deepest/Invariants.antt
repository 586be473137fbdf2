use Rattle.digraph.specs.Depths.{IsDeepestOf}
use Rattle.digraph.proofs.depth.deepest.Given as goal

abbrev pub invariant-loop-rest : goal.invariant-loop-rest
invariant-loop-rest l = record { deepest : IsDeepestOf l.graph l.depths l.node l.rest l.best }

abbrev pub decreases-loop-rest : goal.decreases-loop-rest
decreases-loop-rest l = l.rest
