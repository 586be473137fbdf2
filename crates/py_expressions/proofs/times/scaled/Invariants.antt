use Rattle.std.proofs.Common.{◌≡◌, ◌+◌, ◌*◌, ◌^◌, ◌<◌}
use Rattle.py_expressions.proofs.times.scaled.Given as goal

abbrev pub invariant-loop-turn : goal.invariant-loop-turn
invariant-loop-turn l = record {
  whole : l.n * 10 ^ l._turn ≡ l.quotient * l.by + l.rest;
  below : l.rest < l.by;
}
