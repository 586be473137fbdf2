use Rattle.py_tree.specs.Seen.{tree}
use Rattle.py_frames.proofs.ExprGoes.{pair_next, pair_none}
use Rattle.py_expressions.proofs.expr_items.next_pair.Goals as goal

pub returns-in-Past-clause-moves : goal.returns-in-Past-clause-moves
returns-in-Past-clause-moves c = pair_none c.args.functions.now c.args.frozen.now c.new_dict.result c.args.going.now c.new_dict.new.going c.args.budget c.args.n c.args.row (tree c.args.node) c.place_of-place.result c.in-Past.ensures c.place_of-place.ensures c.new_dict.ensures.moves

pub returns-in-Part-clause-moves : goal.returns-in-Part-clause-moves
returns-in-Part-clause-moves c = pair_next c.args.functions.now c.args.frozen.now c.wait_for.result c.args.going.now c.wait_for.new.going c.args.budget c.args.n c.args.row c.args.node (tree c.in-Part.pair.key) (tree c.in-Part.pair.value) c.place_of-place.result c.in-Part.ensures c.wait_for.ensures.moves
