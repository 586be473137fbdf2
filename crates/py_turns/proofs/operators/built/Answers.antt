use Rattle.py_turns.proofs.ExprCharged.{built_told}
use Rattle.py_turns.proofs.operators.built.Goals as goal

pub returns-clause-moves : goal.returns-clause-moves
returns-clause-moves c = rw c.told.ensures (built_told c.args.functions.now c.args.frozen.now c.builtin-given.result c.args.going.now c.builtin-given.new.heap c.args.place c.args.budget c.builtin-given.new.left.left c.used_after-going.result c.args.builtin c.args.vals c.requires c.used_after-going.ensures.value c.builtin-given.ensures)
