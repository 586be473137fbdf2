use Rattle.std.proofs.Common.{length}
use Rattle.design_table.proofs.domains.+are_of_inputs.Given as goal

abbrev pub decreases-are_of_inputs : goal.decreases-are_of_inputs
decreases-are_of_inputs l = length l.domains.now
