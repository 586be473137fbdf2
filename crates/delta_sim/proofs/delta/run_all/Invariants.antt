use Rattle.std.proofs.Common.{◌≡◌, ℕ, true, length, take}
use Rattle.design_ir.specs.Circuits.{State, at, is_among}
use Rattle.design_ir.specs.Settled.{delta}
use Rattle.design_ir.proofs.NumbersFit.{FitsSignals}
use Rattle.sim_plans.specs.Plans.{outs_at}
use Rattle.sim_plans.specs.Tasks.{AreFitting}
use Rattle.delta_sim.proofs.delta.run_all.Given as goal

abbrev pub invariant-loop-i : goal.invariant-loop-i
invariant-loop-i l = record {
  ran : (st : State) (j s : ℕ) → st.rows ≡ l.rows → is_among (take l.i l.waits.list) j ≡ true → is_among (outs_at l.plan j) s ≡ true → at l.next s ≡ at (delta l.design st l.env) s;
  count : length l.nums.items ≡ length l.initial.nums.items;
  numbers : AreFitting l.design.pool l.nums.items;
  next : length l.next ≡ length l.design.pool.signals;
  next_fits : FitsSignals l.design.pool l.next;
}
