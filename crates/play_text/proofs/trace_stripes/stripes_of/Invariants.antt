use Rattle.std.proofs.Common.{◌≡◌, ◌+◌, ◌++◌, ◌≤◌, length}
use Rattle.play_text.specs.Lanes.{lanes_at}
use Rattle.play_text.specs.Stripes.{grid, joined}
use Rattle.play_text.proofs.trace_stripes.stripes_of.Given as goal

abbrev pub invariant-loop : goal.invariant-loop
invariant-loop l = record {
  lanes : joined (grid l.stripes.items) ++ lanes_at l.rest l.first ≡ lanes_at l.columns l.first;
  few : l.counter + length l.rest ≤ length l.columns;
}
