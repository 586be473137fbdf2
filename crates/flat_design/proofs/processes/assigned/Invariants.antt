use Rattle.std.specs.Prelude.{take}
use Rattle.design_ir.specs.PoolRules.{IsPool}
use Rattle.flat_design.specs.Growing.{IsMore}
use Rattle.flat_design.specs.Assigned.{AreAssigned}
use Rattle.flat_design.proofs.processes.assigned.Given as goal

abbrev pub invariant-loop-s : goal.invariant-loop-s
invariant-loop-s l = record {
  more : IsMore l.initial.pool l.pool;
  rules : IsPool l.pool;
  assigned : AreAssigned l.pool l.slots.items (take l.s-index l.s-items) l.body;
}
