use Rattle.memory_cells.proofs.Spreads.{spreads_carry}
use Rattle.memory_cells.proofs.CarriedEnds.{write_cells_carry, read_cells_carry}
use Rattle.memory_cells.proofs.laws.ends_carry_the_port.Goals as goal

pub returns-clause-spreads : goal.returns-clause-spreads
returns-clause-spreads c = spreads_carry

pub returns-clause-writes : goal.returns-clause-writes
returns-clause-writes c = write_cells_carry

pub returns-clause-reads : goal.returns-clause-reads
returns-clause-reads c = read_cells_carry
