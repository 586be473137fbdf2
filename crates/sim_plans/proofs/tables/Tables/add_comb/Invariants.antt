use Rattle.std.proofs.Common.{◌≡◌, length, take}
use Rattle.sim_plans.specs.Tables.{AreNoMarks, ArePartial}
use Rattle.sim_plans.proofs.GroupTables.{joined}
use Rattle.sim_plans.proofs.tables.Tables.add_comb.Given as goal

abbrev pub invariant-loop-group : goal.invariant-loop-group
invariant-loop-group l = record {
  clocked : l.self.clocked ≡ l.initial.self.clocked;
  noted : length l.self.noted.items ≡ length l.design.pool.signals;
  marks : AreNoMarks l.design l.self.marks;
  partial : ArePartial l.design l.k l.p (joined (take l.group-index l.group-items)) l.self.tasks l.self.readers.items l.self.processes.items;
}
