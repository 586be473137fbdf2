use Rattle.std.proofs.Common.{◌≡◌, take}
use Rattle.fragment_walks.specs.Numbers.{lowered}
use Rattle.clock_domains.proofs.DataLaws.{clocked_words}
use Rattle.clock_domains.proofs.read_data.number_reads.Given as goal

abbrev pub invariant-loop-read : goal.invariant-loop-read
invariant-loop-read l = l.sites.items ≡ lowered (clocked_words (take l.read-index l.reads)) l.number l.fn.sites.items
