use Rattle.std.proofs.Common.{◌≡◌, drop, fold}
use Rattle.std.specs.List.{AllByRecursion, flat_map}
use Rattle.design_ir.specs.Designs.{IsWritePort}
use Rattle.design_ir.specs.Steps.{write_row}
use Rattle.sim_plans.specs.Ports.{AreKnown, write_exprs}
use Rattle.delta_sim.proofs.ports.write_all.Given as goal

abbrev pub invariant-loop-i : goal.invariant-loop-i
invariant-loop-i l = record {
  ports : AllByRecursion (IsWritePort l.design l.m) (drop l.i l.m.writes);
  known : AreKnown l.design.pool l.env l.nums (flat_map write_exprs (drop l.i l.m.writes));
  all : fold (write_row l.design l.env l.listed l.m) l.rows (drop l.i l.m.writes) ≡ fold (write_row l.design l.env l.listed l.m) l.initial.rows l.m.writes;
}
