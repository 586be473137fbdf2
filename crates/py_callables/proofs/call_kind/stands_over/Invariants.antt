use Rattle.std.proofs.Common.{◌≡◌, ◌-◌}
use Rattle.py_heap.specs.Heaps.{seen}
use Rattle.py_frames.specs.Values.{stands_over}
use Rattle.py_callables.proofs.call_kind.stands_over.Given as goal

abbrev pub invariant-loop-turn : goal.invariant-loop-turn
invariant-loop-turn l = stands_over (l.turns - l._turn) (seen l.frozen l.going.state.heap) l.at l.c ≡ stands_over l.turns (seen l.frozen l.going.state.heap) l.fn.v l.c
