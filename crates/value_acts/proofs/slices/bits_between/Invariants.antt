use Rattle.std.proofs.Common.{◌≡◌, ◌-◌, ◌++◌}
use Rattle.py_operators.specs.Spans.{stepped, span_count, numbers_from}
use Rattle.py_builtins.specs.Indices.{picked}
use Rattle.value_acts.specs.Indices.{bits_below, bits_between}
use Rattle.value_acts.proofs.slices.bits_between.Given as goal

abbrev pub invariant-loop-turn : goal.invariant-loop-turn
invariant-loop-turn l = record {
  here : l.at ≡ stepped l.way.start l.way.step l._turn;
  rest : l.all ++ picked (bits_below l.width) (numbers_from (span_count (record { start = l.way.start; stop = l.way.stop; step = l.way.step }) - l._turn) l._turn (record { start = l.way.start; stop = l.way.stop; step = l.way.step }))
      ≡ bits_between l.width l.way.start l.way.stop l.way.step;
}
