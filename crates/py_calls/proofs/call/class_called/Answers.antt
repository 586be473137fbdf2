use Rattle.py_callables.proofs.CalledLaws.{class_ok}
use Rattle.py_calls.proofs.call.class_called.Goals as goal

pub returns-in-Ok-clause-moves : goal.returns-in-Ok-clause-moves
returns-in-Ok-clause-moves c = class_ok c.args.functions.now c.args.frozen.now c.object_made.result c.args.going.now c.object_made.new.going c.args.budget c.args.c c.args.args c.args.keywords c.args.place c.in-Ok.v c.object.new.self c.in-Ok.ensures c.object_made.ensures.moves
