use Rattle.memory_cells.proofs.FirstRows.{rows_begin}
use Rattle.memory_cells.proofs.laws.rows_begin.Goals as goal

pub returns : goal.returns
returns c = rows_begin
