use Rattle.std.proofs.Common.{◌≡◌, drop, fold}
use Rattle.std.specs.List.{flat_map}
use Rattle.design_ir.specs.Steps.{clocked_read}
use Rattle.sim_plans.specs.Ports.{AreKnown, read_exprs, write_exprs}
use Rattle.delta_sim.proofs.ports.read_all.Given as goal

abbrev pub invariant-loop-r : goal.invariant-loop-r
invariant-loop-r l = record {
  known : AreKnown l.design.pool l.env l.nums (flat_map read_exprs (drop l.r-index l.r-items));
  written : AreKnown l.design.pool l.env l.nums (flat_map write_exprs l.m.writes);
  all : fold (clocked_read l.design l.env l.listed l.m l.rows) l.held (drop l.r-index l.r-items) ≡ fold (clocked_read l.design l.env l.listed l.m l.rows) l.initial.held l.m.reads;
}
