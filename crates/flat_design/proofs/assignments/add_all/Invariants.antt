use Rattle.std.proofs.Common.{◌≡◌, ◌++◌, take}
use Rattle.flat_design.proofs.assignments.add_all.Given as goal

abbrev pub invariant-loop-source : goal.invariant-loop-source
invariant-loop-source l = l.all ≡ l.initial.all ++ take l.source-index l.more
