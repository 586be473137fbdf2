use Rattle.memory_cells.proofs.ReadRows.{clocked_reads_follow}
use Rattle.memory_cells.proofs.laws.clocked_reads_follow.Goals as goal

pub returns : goal.returns
returns c = clocked_reads_follow
