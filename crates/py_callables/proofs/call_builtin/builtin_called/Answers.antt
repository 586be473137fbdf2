use Rattle.py_callables.proofs.CalledLaws.{kind_called}
use Rattle.py_callables.proofs.call_builtin.builtin_called.Goals as goal

pub returns-clause-moves : goal.returns-clause-moves
returns-clause-moves c = kind_called c.args.functions.now c.args.frozen.now c.called_by_kind.result c.args.going.now c.called_by_kind.new.going c.args.budget c.args.b c.args.this c.args.args c.args.keywords c.args.place c.kind_of-kind.result c.kind_of-kind.ensures c.called_by_kind.ensures.moves
