use Rattle.std.proofs.Common.{◌≡◌, length}
use Rattle.delta_sim.proofs.first.last_bits.Given as goal

abbrev pub invariant-loop-i : goal.invariant-loop-i
invariant-loop-i l = length l.last.items ≡ l.count
