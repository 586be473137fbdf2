use Rattle.py_callables.proofs.CalledLaws.{func_read}
use Rattle.py_calls.proofs.call.func_called.Goals as goal

pub returns-clause-moves : goal.returns-clause-moves
returns-clause-moves c = func_read c.args.functions.now c.args.frozen.now c.called_as.result c.args.going.now c.called_as.new.going c.args.budget c.args.id.0 c.args.args c.args.keywords c.args.place c.callable_of-callable.result c.callable_of-callable.ensures c.called_as.ensures.moves
