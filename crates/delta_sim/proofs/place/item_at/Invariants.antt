use Rattle.std.proofs.Common.{◌≡◌, length, drop}
use Rattle.design_ir.specs.Named.{AllBelow}
use Rattle.design_ir.specs.Values.{form}
use Rattle.delta_sim.specs.Walked.{item_at}
use Rattle.delta_sim.proofs.place.item_at.Given as goal

abbrev pub invariant-loop-e : goal.invariant-loop-e
invariant-loop-e l = record {
  there : AllBelow (length l.design.pool.exprs) (drop l.e-index l.e-items);
  rest : item_at (form l.design.pool) (drop l.e-index l.e-items) l.rest ≡ item_at (form l.design.pool) l.items l.i;
}
