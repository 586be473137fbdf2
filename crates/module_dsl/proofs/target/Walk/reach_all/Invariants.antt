use Rattle.std.proofs.Common.{take}
use Rattle.module_dsl.specs.Walks.{numbers, IsReached}
use Rattle.module_dsl.proofs.target.Walk.reach_all.Given as goal

abbrev pub invariant-loop-e : goal.invariant-loop-e
invariant-loop-e l = IsReached (numbers (take l.e-index l.items)) l.fn.self.marks.items l.fn.self.waiting.items l.self.marks.items l.self.waiting.items
