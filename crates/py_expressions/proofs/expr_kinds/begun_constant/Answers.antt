use Rattle.py_tree.specs.Seen.{tree}
use Rattle.py_frames.proofs.ExprKinds.{constant_begins}
use Rattle.py_expressions.proofs.expr_kinds.begun_constant.Goals as goal

pub returns-clause-moves : goal.returns-clause-moves
returns-clause-moves c = constant_begins _ _ _ _ c.args.e.now.place c.args.constant (tree c.args.e.now) c.constant_val.result c.requires c.constant_val.ensures
