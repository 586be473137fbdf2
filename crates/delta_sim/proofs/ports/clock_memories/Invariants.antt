use Rattle.std.proofs.Common.{◌≡◌, ◌<◌, ◌≤◌, ℕ, [], length, drop, slice_get, slice_index_or, Some}
use Rattle.design_ir.specs.declared.memory.Memory.{Memory}
use Rattle.design_ir.specs.Steps.{clocked_reads}
use Rattle.sim_plans.specs.Tasks.{AreFitting}
use Rattle.delta_sim.proofs.Flags.{AreFlagged}
use Rattle.delta_sim.proofs.PortTurns.{after}
use Rattle.delta_sim.proofs.ports.clock_memories.Given as goal

abbrev pub invariant-loop-k : goal.invariant-loop-k
invariant-loop-k l = record {
  signals : length l.held ≡ length l.design.pool.signals;
  many : length l.rows.items ≡ length l.initial.rows.items;
  count : length l.nums.items ≡ length l.initial.nums.items;
  numbers : AreFitting l.design.pool l.nums.items;
  room : length l.room.items ≡ length l.initial.room.items;
  changed_count : length l.changed.marks ≡ length l.design.memories;
  flags : AreFlagged l.initial.rows.items l.rows.items l.k l.changed.marks;
  held : clocked_reads l.design l.env l.listed (drop l.k l.design.memories) (drop l.k l.initial.rows.items) l.held ≡ clocked_reads l.design l.env l.listed l.design.memories l.initial.rows.items l.initial.held;
  done : (j : ℕ) (m : Memory) → j < l.k → slice_get l.design.memories j ≡ Some m → slice_index_or l.rows.items j [] ≡ after l.design l.env l.listed m (slice_index_or l.initial.rows.items j []);
  rest : (j : ℕ) → l.k ≤ j → slice_index_or l.rows.items j [] ≡ slice_index_or l.initial.rows.items j [];
}
