-- A name is bound, or that is refused.
use Rattle.py_walks.proofs.TargetLaws.{name_bound, name_refused}
use Rattle.py_walks.proofs.targets.assign_name.Goals as goal

pub returns-in-Ok-clause-moves : goal.returns-in-Ok-clause-moves
returns-in-Ok-clause-moves c = name_bound c.args.functions.now c.args.frozen.now c.args.going.now c.bind.new.going c.args.budget _ _ _ _ c.args.v tt c.requires.kind c.as_str.ensures c.in-Ok.ensures.binds

pub returns-in-Err-clause-moves : goal.returns-in-Err-clause-moves
returns-in-Err-clause-moves c = name_refused c.args.functions.now c.args.frozen.now c.in-Err.halt c.args.going.now c.bind.new.going c.args.budget _ _ _ _ c.args.v c.requires.kind c.as_str.ensures c.in-Err.ensures.binds
