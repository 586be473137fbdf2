-- The element is bound, or that is refused.
use Rattle.py_walks.proofs.ForLaws.{named_bound, named_refused}
use Rattle.py_walks.proofs.for_turns.name_given.Goals as goal

pub returns-in-Ok-clause-moves : goal.returns-in-Ok-clause-moves
returns-in-Ok-clause-moves c = named_bound c.args.functions.now c.args.frozen.now c.for_body.result c.args.going.now c.bind.new.going c.for_body.new.going c.args.budget _ _ _ _ c.args.v tt c.args.stmt c.args.walk c.requires.kind c.as_str.ensures c.in-Ok.ensures.binds c.for_body.ensures.moves

pub returns-clause-moves : goal.returns-clause-moves
returns-clause-moves c = named_refused c.args.functions.now c.args.frozen.now c.in-Err.halt c.args.going.now c.bind.new.going c.args.budget _ _ _ _ c.args.v c.args.stmt c.args.walk c.requires.kind c.as_str.ensures c.in-Err.ensures.binds
