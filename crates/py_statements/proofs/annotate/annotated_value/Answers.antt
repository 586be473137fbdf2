-- A value is waited for, and behind it its target.
use Rattle.py_statements.proofs.AnnotateLaws.{annotate_begins}
use Rattle.py_statements.proofs.annotate.annotated_value.Goals as goal

pub returns-in-Ok-push-clause-moves : goal.returns-in-Ok-push-clause-moves
returns-in-Ok-push-clause-moves c = annotate_begins c.args.functions.now c.args.frozen.now c.wait_as.result c.args.going.now c.wait_as.new.going c.args.budget _ _ _ _ _ c.in-Ok.purpose c.in-Ok-share.outer c.in-Ok-share-2.stmt c.push.new.self c.requires c.in-Ok-share.ensures c.in-Ok-share-2.ensures c.in-Ok.ensures c.in-Ok-push.ensures c.wait_as.ensures.moves
