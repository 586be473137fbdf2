-- The target is reached, and behind it waits the annotation.
use Rattle.py_statements.proofs.AnnotateLaws.{annotate_reaches}
use Rattle.py_statements.proofs.annotate.annotated_alone.Goals as goal

pub returns-in-Ok-push-clause-moves : goal.returns-in-Ok-push-clause-moves
returns-in-Ok-push-clause-moves c = annotate_reaches c.args.functions.now c.args.frozen.now c.reach.result c.args.going.now c.reach.new.going c.args.budget _ _ _ _ c.in-Ok.outer c.push.new.self c.requires.kind c.in-Ok.ensures c.in-Ok-push.ensures c.reach.ensures.moves
