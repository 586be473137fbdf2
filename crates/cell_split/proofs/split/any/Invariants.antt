use Rattle.std.proofs.Common.{◌≡◌, ◌<◌, ℕ, false}
use Rattle.cell_split.specs.Needs.{is_marked}
use Rattle.cell_split.proofs.split.any.Given as goal

abbrev pub invariant-loop-marked : goal.invariant-loop-marked
invariant-loop-marked l = (p : ℕ) → p < l.marked-index → is_marked l.marks p ≡ false
