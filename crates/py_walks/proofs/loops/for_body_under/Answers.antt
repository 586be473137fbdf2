-- The body of a turn is run under a frame.
use Rattle.py_walks.proofs.ForLaws.{body_waits}
use Rattle.py_walks.proofs.loops.for_body_under.Goals as goal

pub returns-in-Ok-push-clause-moves : goal.returns-in-Ok-push-clause-moves
returns-in-Ok-push-clause-moves c = body_waits c.args.functions.now c.args.frozen.now c.run_block.result c.args.going.now c.run_block.new.going c.args.budget _ _ _ _ _ c.in-Ok.stmt c.args.walk _ c.requires.kind c.in-Ok.ensures c.in-Ok-push.ensures c.run_block.ensures.moves
