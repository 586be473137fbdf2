use Rattle.std.specs.Prelude.{take}
use Rattle.design_ir.specs.PoolRules.{IsPool}
use Rattle.flat_design.specs.Growing.{IsMore}
use Rattle.flat_design.proofs.StartLaws.{AreStarted}
use Rattle.flat_design.proofs.processes.started.Given as goal

abbrev pub invariant-loop-s : goal.invariant-loop-s
invariant-loop-s l = record {
  more : IsMore l.initial.latest.pool l.latest.pool;
  all : IsMore l.design.pool l.latest.pool;
  rules : IsPool l.latest.pool;
  slots : AreStarted l.design.pool l.latest.pool l.clocked (take l.s-index l.s-items) l.latest.slots.items;
}
