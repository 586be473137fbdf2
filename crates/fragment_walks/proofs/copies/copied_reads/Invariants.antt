use Rattle.std.proofs.Common.{◌≡◌, take}
use Rattle.fragment_walks.proofs.copies.copied_reads.Given as goal

abbrev pub invariant-loop-read : goal.invariant-loop-read
invariant-loop-read l = l.copy ≡ take l.read-index l.reads
