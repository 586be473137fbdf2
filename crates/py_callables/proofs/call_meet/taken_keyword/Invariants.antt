use Rattle.std.proofs.Common.{◌≡◌, [], drop}
use Rattle.py_frames.specs.Functions.{taken_keyword}
use Rattle.py_callables.specs.Meeting.{taken_on}
use Rattle.py_callables.proofs.call_meet.taken_keyword.Given as goal

abbrev pub invariant-loop-x : goal.invariant-loop-x
invariant-loop-x l = taken_on l.found l.name l.others (drop l.x-index l.keywords) ≡ taken_keyword l.name [] l.keywords
