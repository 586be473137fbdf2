use Rattle.std.proofs.Common.{◌≡◌, List, ℕ, drop, length}
use Rattle.play_text.specs.Stripes.{AreFound, Grows, grid}
use Rattle.play_text.proofs.trace_stripes.shown_in.Given as goal

abbrev pub invariant-loop-b : goal.invariant-loop-b
invariant-loop-b l = record {
  found : (later : List (List ℕ)) → Grows l.shown.items later → AreFound later l.b (grid (drop l.b l.stripes)) → AreFound later 0 (grid l.stripes);
  count : length l.shown.items ≡ l.signals;
}
