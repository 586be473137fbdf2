use Rattle.std.proofs.Common.{◌≡◌, ◌≤◌, map, length, drop}
use Rattle.py_tree.specs.Programs.{parameter_of}
use Rattle.py_frames.specs.Functions.{parameters_met}
use Rattle.py_callables.specs.Meeting.{meeting_on}
use Rattle.py_callables.proofs.call_meet.parameters_met.Given as goal

abbrev pub invariant-loop-param : goal.invariant-loop-param
invariant-loop-param l = record {
  met : meeting_on l.meeting l.args l.defaults (map parameter_of (drop l.param-index l.params)) ≡ parameters_met (map parameter_of l.params) l.args l.fn.keywords l.defaults;
  next : l.meeting.next ≤ length l.args;
  default : l.meeting.default ≤ length l.defaults;
}
