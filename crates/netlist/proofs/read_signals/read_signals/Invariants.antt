use Rattle.std.proofs.Common.{◌≡◌, ℕ, false, length, drop}
use Rattle.std.specs.Prelude.{slice_index_or}
use Rattle.netlist_laws.specs.Module.{is_read}
use Rattle.netlist.proofs.LowerReads.{stored_gives, rest_or}
use Rattle.netlist.proofs.read_signals.read_signals.Given as goal

abbrev pub invariant-loop-j : goal.invariant-loop-j
invariant-loop-j l = record {
  long : length l.reads.items ≡ length l.design.pool.signals;
  each : (s : ℕ) → rest_or (stored_gives s) (drop l.j l.design.memories) (slice_index_or l.reads.items s false) ≡ is_read l.design s;
}
