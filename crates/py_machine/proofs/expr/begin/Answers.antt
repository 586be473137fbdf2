use Rattle.py_tree.specs.Seen.{tree}
use Rattle.py_frames.proofs.ExprLaws.{node_spent, node_stops}
use Rattle.py_machine.proofs.expr.begin.Goals as goal

pub returns-in-Err-clause-moves : goal.returns-in-Err-clause-moves
returns-in-Err-clause-moves c = node_stops c.args.functions.now c.args.frozen.now c.in-Err.halt c.args.going.now c.spend.new.going c.args.budget c.cost_of.result c.place_of.result c.args.purpose (tree c.args.e.now) c.cost_of.ensures c.place_of.ensures c.in-Err.ensures

pub returns-in-Ok-clause-moves : goal.returns-in-Ok-clause-moves
returns-in-Ok-clause-moves c = node_spent c.args.functions.now c.args.frozen.now c.begun.result c.args.going.now c.spend.new.going c.begun.new.going c.args.budget c.cost_of.result tt c.place_of.result c.args.purpose (tree c.args.e.now) c.cost_of.ensures c.place_of.ensures c.in-Ok.ensures c.begun.ensures.grows c.begun.ensures.moves
