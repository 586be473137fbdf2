use Rattle.memory_cells.proofs.Guards.{guarded_reads_follow}
use Rattle.memory_cells.proofs.laws.guarded_reads_follow.Goals as goal

pub returns : goal.returns
returns c = guarded_reads_follow
