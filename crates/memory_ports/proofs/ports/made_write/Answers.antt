use Rattle.memory_ports.proofs.Growing.{anyway, grown_not}
use Rattle.memory_ports.proofs.ports.made_write.Goals as goal

pub returns-in_err-addr-clause-grown : goal.returns-in_err-addr-clause-grown
returns-in_err-addr-clause-grown c = anyway c.from_residual.result (grown_not c.args.pool.now)

pub returns-in_err-word-clause-grown : goal.returns-in_err-word-clause-grown
returns-in_err-word-clause-grown c = anyway c.from_residual-in_err-word.result (grown_not c.args.pool.now)

pub returns-in_err-enable-clause-grown : goal.returns-in_err-enable-clause-grown
returns-in_err-enable-clause-grown c = anyway c.from_residual-in_err-enable.result (grown_not c.args.pool.now)
