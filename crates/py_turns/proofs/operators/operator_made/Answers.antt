use Rattle.py_turns.proofs.ExprCharged.{operator_told}
use Rattle.py_turns.proofs.operators.operator_made.Goals as goal

pub returns-clause-moves : goal.returns-clause-moves
returns-clause-moves c = rw c.told.ensures (operator_told c.args.functions.now c.args.frozen.now c.operate-given.result c.args.going.now c.operate-given.new.heap c.args.place c.args.budget c.operate-given.new.left.left c.used_after-going.result c.args.op c.args.a c.args.b c.requires c.used_after-going.ensures.value c.operate-given.ensures)
