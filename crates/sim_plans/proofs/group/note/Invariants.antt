use Rattle.std.proofs.Common.{◌≡◌, ◌⊎◌, ℕ, true, length, take, get_or}
use Rattle.design_ir.specs.Circuits.{is_among}
use Rattle.sim_plans.specs.Driven.{numbers_of}
use Rattle.sim_plans.proofs.group.note.Given as goal

abbrev pub invariant-loop-s : goal.invariant-loop-s
invariant-loop-s l = record {
  count : length l.noted ≡ length l.initial.noted;
  noted : (s : ℕ) → is_among (numbers_of (take l.s-index l.signals)) s ≡ true → get_or l.noted s 0 ≡ l.i;
  either : (s : ℕ) → (get_or l.noted s 0 ≡ get_or l.initial.noted s 0) ⊎ (get_or l.noted s 0 ≡ l.i);
}
