use Rattle.std.proofs.Common.{◌≡◌, ◌⊎◌, ℕ, true, length, drop, pos}
use Rattle.design_ir.specs.Circuits.{is_among}
use Rattle.delta_sim.specs.Evaluations.{number_of}
use Rattle.delta_sim.proofs.evaluation.unset.Given as goal

abbrev pub invariant-loop-i : goal.invariant-loop-i
invariant-loop-i l = record {
  long : length l.numbers.items ≡ length l.initial.numbers.items;
  left : (k : ℕ) → (number_of l.numbers.items k ≡ pos 0) ⊎ (is_among (drop l.i l.found.list) k ≡ true);
}
