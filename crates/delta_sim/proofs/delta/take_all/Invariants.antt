use Rattle.std.proofs.Common.{◌≡◌, ◌⊎◌, ℕ, true, false, length, take}
use Rattle.design_ir.specs.Circuits.{at, is_among}
use Rattle.sim_plans.specs.Plans.{Notes, Wakes, outs_at}
use Rattle.delta_sim.proofs.delta.take_all.Given as goal

abbrev pub invariant-loop-i : goal.invariant-loop-i
invariant-loop-i l = record {
  count : length l.env.items ≡ length l.initial.env.items;
  once : (t : ℕ) → (at l.initial.env.items t ≡ at l.env.items t) ⊎ (at l.env.items t ≡ at l.next t);
  kept : (s : ℕ) → ((j : ℕ) → is_among (take l.i l.waits.list) j ≡ true → is_among (outs_at l.plan j) s ≡ false) → at l.env.items s ≡ at l.initial.env.items s;
  taken : (j s : ℕ) → is_among (take l.i l.waits.list) j ≡ true → is_among (outs_at l.plan j) s ≡ true → at l.env.items s ≡ at l.next s;
  waits : Wakes l.plan.readers l.initial.env.items l.env.items l.initial.then.marks l.then.marks;
  woken : Wakes l.plan.processes l.initial.env.items l.env.items l.initial.woken.marks l.woken.marks;
  moved : Notes l.initial.env.items l.env.items l.initial.moved.marks l.moved.marks;
}
