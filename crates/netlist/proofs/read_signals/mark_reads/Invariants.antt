use Rattle.std.proofs.Common.{◌≡◌, ℕ, false, length, drop}
use Rattle.std.specs.Prelude.{slice_index_or}
use Rattle.netlist.proofs.LowerReads.{gives, rest_or}
use Rattle.netlist.proofs.read_signals.mark_reads.Given as goal

abbrev pub invariant-loop-k : goal.invariant-loop-k
invariant-loop-k l = record {
  long : length l.reads.items ≡ length l.initial.reads.items;
  each : (s : ℕ) → rest_or (gives s) (drop l.k l.m.reads) (slice_index_or l.reads.items s false) ≡ rest_or (gives s) l.m.reads (slice_index_or l.initial.reads.items s false);
}
