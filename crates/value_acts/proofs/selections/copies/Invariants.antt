use Rattle.std.proofs.Common.{◌≡◌, replicate}
use Rattle.value_acts.proofs.selections.copies.Given as goal

abbrev pub invariant-loop-copy : goal.invariant-loop-copy
invariant-loop-copy l = l.all ≡ replicate l._copy l.e
