use Rattle.new_names.specs.Tracked.{AreTaken}
use Rattle.new_names.proofs.names.free_number.Given as goal

abbrev pub invariant-loop-taken : goal.invariant-loop-taken
invariant-loop-taken l = AreTaken l.names l.name l.taken
