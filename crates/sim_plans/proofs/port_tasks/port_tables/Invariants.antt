use Rattle.std.proofs.Common.{take}
use Rattle.sim_plans.specs.Ports.{comb_ports}
use Rattle.sim_plans.specs.Tables.{AreNoMarks, ArePorted}
use Rattle.sim_plans.proofs.port_tasks.port_tables.Given as goal

abbrev pub invariant-loop-k : goal.invariant-loop-k
invariant-loop-k l = record {
  marks : AreNoMarks l.design l.tables.marks;
  tables : ArePorted l.design l.first l.tables.tasks (comb_ports 0 (take l.k l.design.memories)) l.initial.tables.readers.items l.initial.tables.processes.items l.tables.readers.items l.tables.processes.items;
}
