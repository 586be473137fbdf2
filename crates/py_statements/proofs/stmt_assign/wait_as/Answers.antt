-- A part begins under its frame.
use Rattle.py_statements.proofs.AssignLaws.{part_waits}
use Rattle.py_statements.proofs.stmt_assign.wait_as.Goals as goal

pub returns-in-Ok-push-clause-moves : goal.returns-in-Ok-push-clause-moves
returns-in-Ok-push-clause-moves c = part_waits c.args.functions.now c.args.frozen.now c.args.going.now c.args.budget c.args.frame c.push.new.self c.in-Ok.part c.args.purpose _ c.in-Ok.ensures c.in-Ok-push.ensures c.requires
