use Rattle.py_tree.specs.Seen.{tree, argument_of}
use Rattle.py_calls.proofs.ArgumentLaws.{arguments_more}
use Rattle.py_calls.proofs.call_arguments.arguments_waited.Goals as goal

pub returns-clause-moves : goal.returns-clause-moves
returns-clause-moves c = arguments_more c.args.functions.now c.args.frozen.now c.wait_or_come.result c.args.going.now c.wait_or_come.new.going c.args.budget c.args.node.now c.args.trailer c.args.at c.args.callee c.args.vals c.args.keywords c.args.purpose.now (argument_of c.in-Some.argument.now) c.in-Ok.more c.in-Ok-share_purpose.purpose (tree c.argument_expr.result.now) c.in-Some.ensures c.in-Ok.ensures c.in-Ok-share_purpose.ensures c.argument_expr.ensures c.wait_or_come.ensures.moves
