use Rattle.py_callables.proofs.CalledLaws.{init_found}
use Rattle.py_calls.proofs.call.object_begun.Goals as goal

pub returns-clause-moves : goal.returns-clause-moves
returns-clause-moves c = init_found c.args.functions.now c.args.frozen.now c.made_object.result c.args.going.now c.made_object.new.going c.args.budget c.args.c.0 c.args.o.0 c.args.args c.args.keywords c.args.place c.inherited-found.result c.inherited-found.ensures c.made_object.ensures.moves
