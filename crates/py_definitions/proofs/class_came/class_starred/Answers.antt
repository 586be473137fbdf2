use Rattle.py_tree.specs.Programs.{step_of}
use Rattle.py_definitions.proofs.ClassLaws.{row_waits}
use Rattle.py_definitions.proofs.class_came.class_starred.Goals as goal

pub returns-in-Ok-push-clause-moves : goal.returns-in-Ok-push-clause-moves
returns-in-Ok-push-clause-moves c = row_waits c.args.functions.now c.args.frozen.now c.as_row.result c.args.going.now c.as_row.new.going c.args.budget c.args.n c.class_place-place.result (step_of c.args.s.now) c.in-Ok.stmt c.push.new.self c.args.vals c.args.keywords c.args.v c.in-Ok.ensures c.in-Ok-push.ensures c.class_place-place.ensures c.as_row.ensures.moves
