use Rattle.std.proofs.Common.{[]}
use Rattle.clock_domains.proofs.resolving.parts_of.Given as goal

-- the ports are asked of processes and memories alone
abbrev pub ghost-ports_of : goal.ghost-ports_of
ghost-ports_of g a = record { processes = a.processes.now; paths = []; memories = a.memories.now; memory_paths = [] }

abbrev pub ghost-columns_in : goal.ghost-columns_in
ghost-columns_in g a = g.all
