use Rattle.std.proofs.Common.{◌≡◌, ℕ, false, length}
use Rattle.design_ir.specs.Circuits.{at}
use Rattle.comb_graph.specs.Orders.{is_comb}
use Rattle.delta_sim.specs.Standing.{AreNumbersOf}
use Rattle.sim_plans.specs.Tasks.{AreFitting}
use Rattle.delta_sim.proofs.first.run_in_order.Given as goal

abbrev pub invariant-loop-i : goal.invariant-loop-i
invariant-loop-i l = record {
  env : AreNumbersOf l.design l.env.items;
  count : length l.nums.items ≡ length l.initial.nums.items;
  numbers : AreFitting l.design.pool l.nums.items;
  next : AreNumbersOf l.design l.next;
  others : (s : ℕ) → is_comb l.design s ≡ false → at l.env.items s ≡ at l.initial.env.items s;
}
