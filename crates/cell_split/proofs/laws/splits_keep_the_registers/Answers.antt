use Rattle.cell_split.proofs.Registers.{registers_stay}
use Rattle.cell_split.proofs.laws.splits_keep_the_registers.Goals as goal

pub returns : goal.returns
returns c = registers_stay
