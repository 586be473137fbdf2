use Rattle.memory_ports.proofs.MemoryLaws.{ports_fit, fits_stays, spec_is}
use Rattle.memory_ports.proofs.laws.specs_are_memories.Goals as goal

pub returns-clause-fit : goal.returns-clause-fit
returns-clause-fit c = ports_fit

pub returns-clause-stay : goal.returns-clause-stay
returns-clause-stay c = fits_stays

pub returns-clause-memories : goal.returns-clause-memories
returns-clause-memories c = spec_is
