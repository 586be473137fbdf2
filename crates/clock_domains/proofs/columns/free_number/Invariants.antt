use Rattle.clock_domains.specs.Tracked.{AreTaken, names_of}
use Rattle.clock_domains.proofs.columns.free_number.Given as goal

abbrev pub invariant-loop-taken : goal.invariant-loop-taken
invariant-loop-taken l = AreTaken (names_of l.columns) l.name l.taken
