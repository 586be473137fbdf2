use Rattle.std.proofs.Common.{◌≡◌, drop}
use Rattle.std.specs.List.{list_any}
use Rattle.py_frames.specs.Values.{is_thing}
use Rattle.py_turns.proofs.operators.has_thing.Given as goal

abbrev pub invariant-loop-v : goal.invariant-loop-v
invariant-loop-v l = list_any is_thing (drop l.v-index l.vals) ≡ list_any is_thing l.vals
