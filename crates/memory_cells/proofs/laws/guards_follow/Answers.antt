use Rattle.memory_cells.proofs.ReadRows.{guards_follow}
use Rattle.memory_cells.proofs.laws.guards_follow.Goals as goal

pub returns : goal.returns
returns c = guards_follow
