use Rattle.memory_cells.proofs.Enables.{spread}
use Rattle.memory_cells.proofs.laws.enables_spread.Goals as goal

pub returns : goal.returns
returns c = spread
