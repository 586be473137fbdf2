-- A statement means what is left of it once its units are spent.
use Rattle.py_frames.proofs.StmtLaws.{run_spent}
use Rattle.py_machine.proofs.stmt.run.Goals as goal

pub returns-in-Ok-clause-moves : goal.returns-in-Ok-clause-moves
returns-in-Ok-clause-moves c = run_spent c.args.functions.now c.args.frozen.now c.run_after.result c.args.going.now c.spend.new.going c.run_after.new.going c.args.budget c.step_cost.result c.step_place.result c.in-Ok.field-0 _ c.step_cost.ensures c.in-Ok.ensures c.run_after.ensures.grows c.run_after.ensures.moves
