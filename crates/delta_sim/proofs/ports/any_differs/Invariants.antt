use Rattle.std.proofs.Common.{◌≡◌, ◌<◌, ℕ, drop, pos, slice_get, slice_index_or, Some}
use Rattle.std.specs.List.{flat_map}
use Rattle.design_ir.specs.declared.memory.MemWrite.{MemWrite}
use Rattle.design_ir.specs.Rows.{row_at}
use Rattle.sim_plans.specs.Ports.{AreKnown, write_exprs}
use Rattle.delta_sim.proofs.ports.any_differs.Given as goal

abbrev pub invariant-loop-i : goal.invariant-loop-i
invariant-loop-i l = record {
  known : AreKnown l.design.pool l.env l.nums (flat_map write_exprs (drop l.i l.m.writes));
  noted : (j : ℕ) (w : MemWrite) → j < l.i → slice_get l.m.writes j ≡ Some w → slice_index_or l.room j (pos 0) ≡ row_at l.design.pool l.env l.rows w.addr;
}
