use Rattle.std.proofs.Common.{◌≡◌, replicate}
use Rattle.layout_acts.proofs.layouts.readings_of.Given as goal

abbrev pub invariant-loop-item : goal.invariant-loop-item
invariant-loop-item l = l.all ≡ replicate l._item l.reading
