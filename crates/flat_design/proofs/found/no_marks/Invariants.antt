use Rattle.std.specs.Prelude.{◌≡◌, ℕ, false, length, slice_index_or}
use Rattle.flat_design.proofs.found.no_marks.Given as goal

abbrev pub invariant-loop-i : goal.invariant-loop-i
invariant-loop-i l = record {
  size : length l.marks.items ≡ l.i;
  unset : (s : ℕ) → slice_index_or l.marks.items s false ≡ false;
}
