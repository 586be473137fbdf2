-- A value goes to the next target, and the others wait; a name that is the last is bound.
use Rattle.py_statements.proofs.AssignLaws.{targets_next, target_named}
use Rattle.py_statements.proofs.stmt_assign.assign_from.Goals as goal

pub returns-in-Some-last_name-clause-moves : goal.returns-in-Some-last_name-clause-moves
returns-in-Some-last_name-clause-moves c = target_named c.args.functions.now c.args.frozen.now c.name_bound.result c.args.going.now c.name_bound.new.going c.args.budget c.args.n _ c.in-Some.target.now.place _ _ _ _ _ _ c.args.v c.requires.kind c.in-Some.ensures.0 c.in-Some-last_name.ensures.1 c.in-Some-last_name.ensures.0 c.as_str.ensures c.name_bound.ensures.moves

pub returns-clause-moves : goal.returns-clause-moves
returns-clause-moves c = targets_next c.args.functions.now c.args.frozen.now c.assign_under.result c.args.going.now c.assign_under.new.going c.args.budget c.args.n _ _ _ _ _ c.in-Ok.stmt c.args.v c.copied-val.result c.requires.kind c.in-Ok.ensures c.in-Some.ensures.0 c.copied-val.ensures c.assign_under.ensures.moves
