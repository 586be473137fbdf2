use Rattle.std.proofs.Common.{map}
use Rattle.py_tree.specs.Seen.{tree}
use Rattle.py_tree.specs.Tree.{trees}
use Rattle.py_frames.proofs.ExprKinds.{display_begins}
use Rattle.py_expressions.proofs.expr_kinds.begun_display.Goals as goal

pub returns-clause-moves : goal.returns-clause-moves
returns-clause-moves c = display_begins _ _ _ _ _ _ c.args.e.now.place (trees (map tree c.args._items.now)) (tree c.args.e.now) c.in-Ok.node c.new-vals.result c.requires c.in-Ok.ensures c.new-vals.ensures c.next_item.ensures.moves
