use Rattle.py_callables.proofs.GoneLaws.{gone_first}
use Rattle.py_callables.proofs.call_gone.gone_over.Goals as goal

pub returns-clause-moves : goal.returns-clause-moves
returns-clause-moves c = gone_first c.args.functions.now c.args.frozen.now c.gone_by.result c.args.going.now c.gone_by.new.going c.args.budget c.args.builtin c.args.count c.args.done c.args.rest _ c.args.place c.in-Ok.gone c.as_slice.ensures c.in-Ok.ensures c.gone_by.ensures.moves
