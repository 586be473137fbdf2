use Rattle.std.proofs.Common.{◌++◌, ℕ, take, List}
use Rattle.design_ir.specs.declared.memory.MemRead.{MemRead}
use Rattle.sim_plans.specs.Ports.{unclocked}
use Rattle.sim_plans.specs.Tables.{AreNoMarks, ArePorted}
use Rattle.sim_plans.proofs.port_tasks.PortTables.add_memory.Given as goal

abbrev pub invariant-loop-r : goal.invariant-loop-r
invariant-loop-r l = record {
  marks : AreNoMarks l.design l.self.marks;
  tables : (done : List (ℕ × MemRead)) (readers processes : List (List ℕ)) → ArePorted l.design l.first l.initial.self.tasks done readers processes l.initial.self.readers.items l.initial.self.processes.items
      → ArePorted l.design l.first l.self.tasks (done ++ unclocked l.k (take l.r-index l.r-items)) readers processes l.self.readers.items l.self.processes.items;
}
