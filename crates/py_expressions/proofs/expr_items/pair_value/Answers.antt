use Rattle.py_tree.specs.Seen.{tree}
use Rattle.py_frames.proofs.ExprGoes.{pair_value, pair_missing}
use Rattle.py_expressions.proofs.expr_items.pair_value.Goals as goal

pub returns-in-Past-clause-moves : goal.returns-in-Past-clause-moves
returns-in-Past-clause-moves c = pair_missing c.args.functions.now c.args.frozen.now c.new_dict.result c.args.going.now c.new_dict.new.going c.args.budget c.args.n c.args.row c.args.key (tree c.args.node) c.place_of-place.result c.in-Past.ensures c.place_of-place.ensures c.new_dict.ensures.moves

pub returns-in-Part-clause-moves : goal.returns-in-Part-clause-moves
returns-in-Part-clause-moves c = pair_value c.args.functions.now c.args.frozen.now c.wait_for.result c.args.going.now c.wait_for.new.going c.args.budget c.args.n c.args.row c.args.node c.args.key (tree c.in-Part.pair.key) (tree c.in-Part.pair.value) c.in-Part.ensures c.wait_for.ensures.moves
