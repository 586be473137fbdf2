use Rattle.std.proofs.Common.{◌≡◌, false, take}
use Rattle.fragment_walks.specs.Marks.{marked}
use Rattle.fragment_walks.specs.Reads.{data_signals}
use Rattle.clock_domains.specs.Data.{is_taken}
use Rattle.clock_domains.proofs.read_data.data_marks.Given as goal

abbrev pub invariant-loop-memory : goal.invariant-loop-memory
invariant-loop-memory l = record {
  free : is_taken l.initial.marks.items (data_signals (take l.memory-index l.memories)) ≡ false;
  marks : l.marks.items ≡ marked (data_signals (take l.memory-index l.memories)) l.initial.marks.items;
}
