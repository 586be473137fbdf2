use Rattle.py_tree.specs.Seen.{tree}
use Rattle.py_frames.proofs.ExprGoes.{item_next, item_none}
use Rattle.py_expressions.proofs.expr_items.next_item.Goals as goal

pub returns-in-Past-clause-moves : goal.returns-in-Past-clause-moves
returns-in-Past-clause-moves c = item_none c.args.functions.now c.args.frozen.now c.items_made.result c.args.going.now c.items_made.new.going c.args.budget c.args.n c.args.vals (tree c.args.node) c.in-Past.ensures c.items_made.ensures.moves

pub returns-in-Ok-clause-moves : goal.returns-in-Ok-clause-moves
returns-in-Ok-clause-moves c = item_next c.args.functions.now c.args.frozen.now c.wait_for.result c.args.going.now c.wait_for.new.going c.args.budget c.args.n c.in-Ok.next c.args.vals c.args.node (tree c.in-Part.item) c.in-Ok.ensures c.in-Part.ensures c.wait_for.ensures.moves
