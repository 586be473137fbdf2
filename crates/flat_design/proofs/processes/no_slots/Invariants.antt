use Rattle.std.specs.Prelude.{◌≡◌, length}
use Rattle.flat_design.proofs.processes.no_slots.Given as goal

abbrev pub invariant-loop-i : goal.invariant-loop-i
invariant-loop-i l = length l.slots.items ≡ l.i
