use Rattle.std.proofs.Common.{◌≡◌, take}
use Rattle.expr_index.proofs.numbers.same_patterns.Given as goal

abbrev pub invariant-loop-p : goal.invariant-loop-p
invariant-loop-p l = l.all ≡ take l.p-index l.p-items
