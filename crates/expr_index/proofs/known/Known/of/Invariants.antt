use Rattle.std.proofs.Common.{take}
use Rattle.expr_index.specs.Knows.{Knows}
use Rattle.expr_index.proofs.known.Known.of.Given as goal

abbrev pub invariant-loop-i : goal.invariant-loop-i
invariant-loop-i g l = Knows l.known (take l.i (g.P.Exprs.pooled l.pool).exprs)
