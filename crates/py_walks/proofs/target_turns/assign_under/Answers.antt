-- A value goes to a target under a frame.
use Rattle.py_walks.proofs.TargetLaws.{assign_waited}
use Rattle.py_walks.proofs.target_turns.assign_under.Goals as goal

pub returns-in-Ok-clause-moves : goal.returns-in-Ok-clause-moves
returns-in-Ok-clause-moves c = assign_waited c.args.functions.now c.args.frozen.now c.assign.result c.args.going.now c.assign.new.going c.args.budget c.args.frame _ _ c.args.v c.requires.room c.in-Ok.ensures c.assign.ensures.moves
