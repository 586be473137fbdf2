use Rattle.std.proofs.Common.{◌≡◌, ◌<◌, ℕ, true, false, length, drop, slice_index_or}
use Rattle.std.specs.List.{AllByRecursion}
use Rattle.design_ir.specs.Circuits.{is_among}
use Rattle.sim_plans.proofs.agenda.unmark.Given as goal

abbrev pub invariant-loop-n : goal.invariant-loop-n
invariant-loop-n l = record {
  size : length l.marks.items ≡ length l.initial.marks.items;
  below : AllByRecursion (λ n. n < length l.initial.marks.items) (drop l.n-index l.list);
  left : (k : ℕ) → slice_index_or l.marks.items k false ≡ true → (is_among (drop l.n-index l.list) k ≡ is_among l.list k) × (slice_index_or l.initial.marks.items k false ≡ true);
}
