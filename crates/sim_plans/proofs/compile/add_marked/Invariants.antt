use Rattle.std.proofs.Common.{◌≡◌, ◌++◌, take}
use Rattle.sim_plans.proofs.compile.add_marked.Given as goal

abbrev pub invariant-loop-i : goal.invariant-loop-i
invariant-loop-i l = l.all.items ≡ l.initial.all.items ++ take l.i l.marks.list
