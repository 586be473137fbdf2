use Rattle.std.proofs.Common.{List, ℕ, drop}
use Rattle.std.specs.List.{AllByRecursion}
use Rattle.play_text.specs.Stripes.{IsFound, Grows}
use Rattle.play_text.proofs.trace_stripes.note_all.Given as goal

abbrev pub invariant-loop-x : goal.invariant-loop-x
invariant-loop-x l = record {
  found : (later : List (List ℕ)) → Grows l.shown.items later → AllByRecursion (IsFound later l.b) (drop l.x-index l.lanes) → AllByRecursion (IsFound later l.b) l.lanes;
  grows : Grows l.fn.shown.items l.shown.items;
}
