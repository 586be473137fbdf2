use Rattle.py_statements.proofs.ChangeLaws.{changed_by}
use Rattle.py_statements.proofs.augment.list_changed.Goals as goal

pub returns-clause-moves : goal.returns-clause-moves
returns-clause-moves c = rw c.told.ensures (rw c.instead.ensures (changed_by c.args.functions.now c.args.frozen.now c.builtin-given.result c.args.going.now c.builtin-given.new.heap c.args.place c.args.budget c.builtin-given.new.left.left c.used_after-going.result c.args.b c.args.x.now c.args.y.now c.in-Ok.vals c.in-Ok.ensures c.requires c.used_after-going.ensures.value c.builtin-given.ensures))
