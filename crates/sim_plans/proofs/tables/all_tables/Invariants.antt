use Rattle.sim_plans.specs.Tables.{AreTables, IsRoom}
use Rattle.sim_plans.proofs.tables.all_tables.Given as goal

abbrev pub invariant-loop-k : goal.invariant-loop-k
invariant-loop-k l = record {
  tables : AreTables l.design l.k l.tables.clocked l.tables.tasks l.tables.readers.items l.tables.processes.items;
  room : IsRoom l.design l.tables.marks l.tables.noted.items;
}
