use Rattle.std.proofs.Common.{◌≡◌, ◌<◌, ℕ, true, false, length, slice_index_or}
use Rattle.delta_sim.proofs.sim.wake_all.Given as goal

abbrev pub invariant-loop-k : goal.invariant-loop-k
invariant-loop-k l = record {
  count : length l.waits.marks ≡ l.count;
  all : (k : ℕ) → k < l.k → slice_index_or l.waits.marks k false ≡ true;
}
