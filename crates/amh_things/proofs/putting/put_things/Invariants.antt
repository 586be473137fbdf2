use Rattle.std.proofs.Common.{◌≡◌, ◌++◌, length}
use Rattle.amh_things.proofs.putting.put_things.Given as goal

abbrev pub invariant-loop-thing : goal.invariant-loop-thing
invariant-loop-thing l = l.values ++ l.things ≡ l.initial.values ++ l.initial.things

abbrev pub decreases-loop-thing : goal.decreases-loop-thing
decreases-loop-thing l = length l.things
