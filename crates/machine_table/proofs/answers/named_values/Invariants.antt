use Rattle.std.proofs.Common.{length}
use Rattle.machine_table.proofs.answers.named_values.Given as goal

abbrev pub decreases-loop-rest : goal.decreases-loop-rest
decreases-loop-rest l = length l.rest
