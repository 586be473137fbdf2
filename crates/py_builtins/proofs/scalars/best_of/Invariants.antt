use Rattle.std.proofs.Common.{◌≡◌, drop}
use Rattle.std.specs.List.{best_of}
use Rattle.py_builtins.specs.Scalars.{is_before}
use Rattle.py_builtins.proofs.scalars.best_of.Given as goal

abbrev pub invariant-loop-v : goal.invariant-loop-v
invariant-loop-v l = best_of (is_before l.least) l.best (drop l.v-index l.rest) ≡ best_of (is_before l.least) l.fn.first l.rest
