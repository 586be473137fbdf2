use Rattle.std.specs.Prelude.{negsuc}
use Rattle.std.proofs.Common.{◌∙◌, ap, sym, arith}
use Rattle.py_expressions.proofs.ExprTimes.{by_decimal_behind}
use Rattle.py_expressions.proofs.times.by_decimal.Goals as goal

pub returns-in-Behind : goal.returns-in-Behind
returns-in-Behind c = by_decimal_behind c.args.n c.from-by.result c.from.result c.args.d c.scaled.result c.kept.result (c.in-Behind.ensures ∙ ap negsuc (sym c.from.ensures)) c.from-by.ensures (omega (arith, c.if-by-eq0.false)) c.scaled.ensures c.kept.ensures
