use Rattle.netlist_laws.proofs.WritePorts.{write_ports_made}
use Rattle.netlist_laws.proofs.ReadPorts.{comb_reads_made, clocked_reads_made, flags_made, read_shown}
use Rattle.netlist_laws.proofs.laws.memory_ports_are_made.Goals as goal

pub returns-clause-writes : goal.returns-clause-writes
returns-clause-writes c = write_ports_made c.ends_carry_the_port.ensures.spreads c.ends_carry_the_port.ensures.writes

pub returns-clause-comb_reads : goal.returns-clause-comb_reads
returns-clause-comb_reads c = comb_reads_made c.reads_follow.ensures c.guards_follow.ensures

pub returns-clause-clocked_reads : goal.returns-clause-clocked_reads
returns-clause-clocked_reads c = clocked_reads_made c.ends_carry_the_port.ensures.reads

pub returns-clause-flags : goal.returns-clause-flags
returns-clause-flags c = flags_made

pub returns-clause-words : goal.returns-clause-words
returns-clause-words c = read_shown c.guards_show_the_word.ensures
