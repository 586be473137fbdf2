use Rattle.std.proofs.Common.{◌≡◌, drop}
use Rattle.play_text.specs.Trace.{name_of}
use Rattle.play_text.proofs.trace_events.name_of.Given as goal

abbrev pub invariant-loop-x : goal.invariant-loop-x
invariant-loop-x l = name_of (drop l.x-index l.columns) l.sig.0 ≡ name_of l.columns l.sig.0
