-- What a `for` goes over is waited for.
use Rattle.py_walks.proofs.ForLaws.{for_takes}
use Rattle.py_walks.proofs.loops.for_source.Goals as goal

pub returns-in-Ok-push-clause-moves : goal.returns-in-Ok-push-clause-moves
returns-in-Ok-push-clause-moves c = for_takes c.args.functions.now c.args.frozen.now c.as_row.result c.args.going.now c.as_row.new.going c.args.budget _ _ _ _ _ c.in-Ok.stmt c.args.v _ c.requires.kind c.in-Ok.ensures c.in-Ok-push.ensures c.as_row.ensures.moves
