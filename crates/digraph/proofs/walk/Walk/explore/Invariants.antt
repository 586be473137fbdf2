use Rattle.std.proofs.Common.{◌≢◌}
use Rattle.digraph.specs.declared.walk.Mark.TheVariants.{New}
use Rattle.digraph.specs.Walks.{mark, Stands, Kept, work}
use Rattle.digraph.proofs.walk.Walk.explore.Given as goal

abbrev pub invariant-loop-at : goal.invariant-loop-at
invariant-loop-at l = record {
  stands : Stands l.graph l.self l.at;
  kept : Kept l.fn.self.marks l.self.marks;
  seen : mark l.self.marks l.root ≢ New;
}

abbrev pub decreases-loop-at : goal.decreases-loop-at
decreases-loop-at l = work l.graph l.self l.at
