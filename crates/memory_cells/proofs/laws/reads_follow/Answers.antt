use Rattle.memory_cells.proofs.ReadRows.{reads_follow}
use Rattle.memory_cells.proofs.laws.reads_follow.Goals as goal

pub returns : goal.returns
returns c = reads_follow
