use Rattle.py_tree.specs.Seen.{tree}
use Rattle.py_frames.proofs.ExprKinds.{decimal_some, decimal_none}
use Rattle.py_expressions.proofs.expr_kinds.begun_decimal.Goals as goal

pub returns-in-Some-clause-moves : goal.returns-in-Some-clause-moves
returns-in-Some-clause-moves c = decimal_some _ _ _ _ c.args.e.now.place c.args.decimal (tree c.args.e.now) c.in-Some.time c.requires c.in-Some.ensures

pub returns-in-None-clause-moves : goal.returns-in-None-clause-moves
returns-in-None-clause-moves c = rw c.stopped.ensures (decimal_none _ _ _ _ c.args.e.now.place c.args.decimal (tree c.args.e.now) c.requires c.in-None.ensures)
