use Rattle.py_callables.proofs.CalledLaws.{super_here}
use Rattle.py_callables.proofs.call_builtin.super_made.Goals as goal

pub returns-clause-moves : goal.returns-clause-moves
returns-clause-moves c = super_here c.args.functions.now c.args.frozen.now c.with_func.result c.args.going.now c.with_func.new.going c.args.budget c.args.place c.super_of-f.result c.look_up-class.result c.look_up-class.ensures c.super_of-f.ensures c.with_func.ensures.moves
