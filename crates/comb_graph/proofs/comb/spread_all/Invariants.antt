use Rattle.std.proofs.Common.{◌-◌, length}
use Rattle.comb_graph.specs.CombTargets.{FindsSame}
use Rattle.comb_graph.proofs.comb.spread_all.Given as goal

abbrev pub invariant-loop-i : goal.invariant-loop-i
invariant-loop-i l = FindsSame l.design.pool l.fn.exprs.items l.fn.signals.items (length l.design.pool.exprs) l.exprs.items l.signals.items (length l.design.pool.exprs - l.i)
