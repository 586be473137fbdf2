use Rattle.std.proofs.Common.{◌≡◌, ◌≤◌, length, drop, pos, slice_index_or}
use Rattle.design_ir.specs.Values.{form, joined, total_width}
use Rattle.sim_plans.proofs.expressions.joined.Given as goal

abbrev pub invariant-loop-left : goal.invariant-loop-left
invariant-loop-left l = record {
  within : l.left ≤ length l.items;
  width : l.bits.width ≡ total_width (form l.design.pool) (drop l.left l.items);
  bits : l.bits.bits ≡ joined (form l.design.pool) (λ k. slice_index_or l.nums k (pos 0)) (drop l.left l.items);
}

abbrev pub decreases-loop-left : goal.decreases-loop-left
decreases-loop-left l = l.left
