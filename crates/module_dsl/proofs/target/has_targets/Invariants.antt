use Rattle.std.proofs.Common.{◌+◌, length}
use Rattle.module_dsl.specs.Walks.{unmarked, IsWalking}
use Rattle.module_dsl.proofs.target.has_targets.Given as goal

abbrev pub invariant-loop-e : goal.invariant-loop-e
invariant-loop-e l = IsWalking l.pool l.fn.root.0 l.walk.marks.items l.walk.waiting.items

abbrev pub decreases-loop-e : goal.decreases-loop-e
decreases-loop-e l = unmarked l.walk.marks.items + length l.walk.waiting.items
