use Rattle.std.proofs.Common.{◌≡◌, ◌++◌, take}
use Rattle.bench_acts.proofs.context.tick_with.Given as goal

abbrev pub invariant-loop-x : goal.invariant-loop-x
invariant-loop-x l = l.samples ≡ take l.x-index l.x-items

abbrev pub invariant-loop-y : goal.invariant-loop-y
invariant-loop-y l = l.samples ≡ l.initial.samples ++ take l.y-index l.more
