use Rattle.netlist_laws.proofs.ModuleHistories.{modules_have_the_history}
use Rattle.netlist_laws.proofs.laws.modules_have_the_history.Goals as goal

pub returns : goal.returns
returns c =
    let laws = c.cells_keep_the_rules.ensures in
    let ports = c.memory_ports_are_made.ensures in
    modules_have_the_history (record { inits = laws.inits; writes = laws.writes; comb_reads = laws.comb_reads; clocked_reads = laws.clocked_reads; memories = laws.memories })
    (record {
      begin = c.rows_begin.ensures;
      follow = c.rows_follow.ensures;
      spreads = c.ends_carry_the_port.ensures.spreads;
      rows = c.reads_follow.ensures;
      guards = c.guards_follow.ensures;
      writes = ports.writes;
      comb = ports.comb_reads;
      reads = record { reads = c.clocked_reads_follow.ensures; guarded = c.guarded_reads_follow.ensures; made = ports.clocked_reads; flags = ports.flags };
      shown = ports.words;
    })
