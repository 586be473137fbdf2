use Rattle.py_tree.specs.Seen.{tree, each_of}
use Rattle.py_frames.proofs.ExprKinds.{list_of_begins}
use Rattle.py_expressions.proofs.expr_kinds.begun_list_of.Goals as goal

pub returns-clause-moves : goal.returns-clause-moves
returns-clause-moves c = list_of_begins _ _ _ _ _ _ c.args.e.now.place (tree c.args._item.now) (each_of c.args._each.now) (tree c.args.e.now) c.in-Ok.node c.requires.seen c.in-Ok.ensures c.begun_comprehension.ensures.moves
