use Rattle.memory_cells.proofs.WrittenRows.{rows_follow}
use Rattle.memory_cells.proofs.laws.rows_follow.Goals as goal

pub returns : goal.returns
returns c = rows_follow
