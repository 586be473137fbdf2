use Rattle.std.proofs.Common.{◌≡◌, drop}
use Rattle.std.specs.List.{AllByRecursion, flat_map}
use Rattle.design_ir.specs.Designs.{IsWritePort}
use Rattle.design_ir.specs.Steps.{shown_through}
use Rattle.sim_plans.specs.Ports.{AreKnown, write_exprs}
use Rattle.delta_sim.proofs.ports.shown_through.Given as goal

abbrev pub invariant-loop-i : goal.invariant-loop-i
invariant-loop-i l = record {
  ports : AllByRecursion (IsWritePort l.design l.m) (drop l.i l.m.writes);
  known : AreKnown l.design.pool l.env l.nums (flat_map write_exprs (drop l.i l.m.writes));
  all : shown_through l.design l.env l.listed l.m l.r.transparent l.address l.i (drop l.i l.m.writes) l.row ≡ shown_through l.design l.env l.listed l.m l.r.transparent l.address 0 l.m.writes l.initial.row;
}
