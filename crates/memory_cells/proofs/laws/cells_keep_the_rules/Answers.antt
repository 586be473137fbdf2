use Rattle.memory_cells.proofs.Rules.{inits_fit, writes_fit, comb_reads_fit, clocked_reads_fit, memories_fit}
use Rattle.memory_cells.proofs.laws.cells_keep_the_rules.Goals as goal

pub returns-clause-inits : goal.returns-clause-inits
returns-clause-inits c = inits_fit

pub returns-clause-writes : goal.returns-clause-writes
returns-clause-writes c = writes_fit

pub returns-clause-comb_reads : goal.returns-clause-comb_reads
returns-clause-comb_reads c = comb_reads_fit

pub returns-clause-clocked_reads : goal.returns-clause-clocked_reads
returns-clause-clocked_reads c = clocked_reads_fit

pub returns-clause-memories : goal.returns-clause-memories
returns-clause-memories c = memories_fit
