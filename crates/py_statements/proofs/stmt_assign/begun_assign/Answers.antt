-- The value of an assignment is waited for, unless it is there at once.
use Rattle.py_statements.proofs.AssignLaws.{assign_begins, assign_at_once}
use Rattle.py_statements.proofs.stmt_assign.begun_assign.Goals as goal

pub returns-in-Some-clause-moves : goal.returns-in-Some-clause-moves
returns-in-Some-clause-moves c = assign_at_once c.args.functions.now c.args.frozen.now c.assign_from.result c.args.going.now c.assign_from.new.going c.args.budget _ _ _ _ c.in-Some.found c.requires.kind c.in-Some.ensures.value c.in-Some.ensures.room c.assign_from.ensures.grows c.assign_from.ensures.moves

pub returns-clause-moves : goal.returns-clause-moves
returns-clause-moves c = assign_begins c.args.functions.now c.args.frozen.now c.wait_as.result c.args.going.now c.wait_as.new.going c.args.budget _ _ _ _ _ c.in-Ok.stmt c.requires.kind c.in-Ok.ensures c.in-Ok-purpose_of.ensures c.wait_as.ensures.moves
