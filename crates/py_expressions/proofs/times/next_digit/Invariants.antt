use Rattle.std.proofs.Common.{◌≡◌, ◌+◌, ◌*◌, ◌<◌, ◌≤◌}
use Rattle.py_expressions.proofs.times.next_digit.Given as goal

abbrev pub invariant-loop-turn : goal.invariant-loop-turn
invariant-loop-turn l = record {
  whole : l._turn * l.rest ≡ l.digit * l.by + l.sum;
  below : l.sum < l.by;
  small : l.digit ≤ l._turn;
  room : l.gap + l.rest ≡ l.by;
}
