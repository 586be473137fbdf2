use Rattle.std.proofs.Common.{◌≡◌, false, take}
use Rattle.fragment_walks.specs.Marks.{marked}
use Rattle.clock_domains.specs.Data.{is_taken, words}
use Rattle.clock_domains.proofs.read_data.mark_new.Given as goal

abbrev pub invariant-loop-read : goal.invariant-loop-read
invariant-loop-read l = record {
  free : is_taken l.fn.marks.items (words (take l.read-index l.reads)) ≡ false;
  marks : l.marks.items ≡ marked (words (take l.read-index l.reads)) l.fn.marks.items;
}
