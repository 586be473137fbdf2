-- What trails spends its units, and its primary is waited for.
use Rattle.py_walks.proofs.TargetLaws.{trailed_waits, trailed_stops}
use Rattle.py_walks.proofs.targets.assign_trailed.Goals as goal

pub returns-in-Ok-spend-clause-moves : goal.returns-in-Ok-spend-clause-moves
returns-in-Ok-spend-clause-moves c = trailed_waits c.args.functions.now c.args.frozen.now c.wait_or_come.result c.args.going.now c.spend.new.going c.wait_or_come.new.going c.args.budget c.cost_of.result tt _ _ _ _ c.in-Ok.node c.args.v c.requires.kind c.in-Ok.ensures c.cost_of.ensures c.in-Ok-spend.ensures c.wait_or_come.ensures.grows c.wait_or_come.ensures.moves

pub returns-in-Err-clause-moves : goal.returns-in-Err-clause-moves
returns-in-Err-clause-moves c = trailed_stops c.args.functions.now c.args.frozen.now c.in-Err.halt c.args.going.now c.spend.new.going c.args.budget c.cost_of.result _ _ _ _ c.args.v c.requires.kind c.cost_of.ensures c.in-Err.ensures
