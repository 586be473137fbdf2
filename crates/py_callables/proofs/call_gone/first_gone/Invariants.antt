use Rattle.std.proofs.Common.{◌≡◌, drop}
use Rattle.py_callables.specs.Going_over.{first_gone}
use Rattle.py_callables.proofs.call_gone.first_gone.Given as goal

abbrev pub invariant-loop-i : goal.invariant-loop-i
invariant-loop-i l = first_gone l.b l.n l.done (drop l.i l.rest) ≡ first_gone l.b l.n l.initial.done l.rest
