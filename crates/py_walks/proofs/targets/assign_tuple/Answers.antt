-- The elements of what is unpacked are waited for.
use Rattle.py_walks.proofs.TargetLaws.{tuple_row}
use Rattle.py_walks.proofs.targets.assign_tuple.Goals as goal

pub returns-in-Ok-push-clause-moves : goal.returns-in-Ok-push-clause-moves
returns-in-Ok-push-clause-moves c = tuple_row c.args.functions.now c.args.frozen.now c.as_row.result c.args.going.now c.as_row.new.going c.args.budget _ _ _ c.in-Ok.node c.args.v _ c.requires.kind c.in-Ok.ensures c.in-Ok-push.ensures c.as_row.ensures.moves
