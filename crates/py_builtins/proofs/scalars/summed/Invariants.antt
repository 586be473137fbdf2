use Rattle.std.proofs.Common.{◌≡◌, drop, Ok}
use Rattle.std.specs.Prelude.{fold}
use Rattle.py_builtins.specs.Scalars.{plus}
use Rattle.py_builtins.proofs.scalars.summed.Given as goal

abbrev pub invariant-loop-v : goal.invariant-loop-v
invariant-loop-v l = fold plus (Ok l.sum) (drop l.v-index l.row) ≡ fold plus (Ok l.fn.start) l.row
