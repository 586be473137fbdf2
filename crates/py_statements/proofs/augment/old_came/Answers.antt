use Rattle.py_tree.specs.Programs.{step_of}
use Rattle.py_statements.proofs.ChangeLaws.{old_none}
use Rattle.py_statements.proofs.augment.old_came.Goals as goal

pub returns-in-Past-clause-moves : goal.returns-in-Past-clause-moves
returns-in-Past-clause-moves c = old_none c.args.functions.now c.args.frozen.now c.args.going.now c.args.budget (step_of c.args.s) c.args.changed c.args.old c.in-Past.ensures
