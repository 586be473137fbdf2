use Rattle.memory_ports.proofs.PortLaws.{write_has, read_has, ports_stay, pools_grow, others_left}
use Rattle.memory_ports.proofs.laws.ports_have_signals.Goals as goal

pub returns-clause-begun : goal.returns-clause-begun
returns-clause-begun c = λ q shape depth rows. record { writes = tt; reads = tt }

pub returns-clause-writes : goal.returns-clause-writes
returns-clause-writes c = write_has

pub returns-clause-reads : goal.returns-clause-reads
returns-clause-reads c = read_has

pub returns-clause-grown : goal.returns-clause-grown
returns-clause-grown c = ports_stay

pub returns-clause-pools : goal.returns-clause-pools
returns-clause-pools c = pools_grow

pub returns-clause-others : goal.returns-clause-others
returns-clause-others c = others_left
