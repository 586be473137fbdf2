use Rattle.std.proofs.Common.{◌≡◌, ◌<◌, ℕ, length, slice_get, Some}
use Rattle.design_ir.specs.declared.memory.Memory.{Memory}
use Rattle.sim_plans.specs.Ports.{HasPorts}
use Rattle.sim_plans.specs.Tables.{AreNoMarks}
use Rattle.sim_plans.proofs.port_exprs.all_ports.Given as goal

abbrev pub invariant-loop-k : goal.invariant-loop-k
invariant-loop-k l = record {
  marks : AreNoMarks l.design l.marks;
  count : length l.all ≡ l.k;
  each : (j : ℕ) (m : Memory) → j < l.k → slice_get l.design.memories j ≡ Some m → HasPorts l.design (length l.design.pool.exprs) l.all j m;
}
