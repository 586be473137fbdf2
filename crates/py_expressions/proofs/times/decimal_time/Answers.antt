use Rattle.std.specs.Prelude.{pos, negsuc}
use Rattle.std.proofs.Common.{◌∙◌, ap, sym}
use Rattle.py_expressions.proofs.ExprTimes.{decimal_zeros, decimal_behind}
use Rattle.py_expressions.proofs.times.decimal_time.Goals as goal

pub returns-in-Zeros : goal.returns-in-Zeros
returns-in-Zeros c = decimal_zeros c.args.d c.from-n.result c.from.result c.scaled.result c.kept.result (c.in-Zeros.ensures ∙ ap pos (sym c.from.ensures)) c.from-n.ensures c.scaled.ensures c.kept.ensures

pub returns-in-Behind : goal.returns-in-Behind
returns-in-Behind c = decimal_behind c.args.d c.from-n.result c.from-in-Behind.result c.without_digits-whole.result c.limited.result c.kept-in-Behind.result (c.in-Behind.ensures ∙ ap negsuc (sym c.from-in-Behind.ensures)) c.from-n.ensures c.without_digits-whole.ensures c.limited.ensures c.kept-in-Behind.ensures
