-- The test of a turn is waited for.
use Rattle.py_statements.proofs.WhileLaws.{turn_tests}
use Rattle.py_statements.proofs.stmt_while.while_turn.Goals as goal

pub returns-then-n-gt0-clause-moves : goal.returns-then-n-gt0-clause-moves
returns-then-n-gt0-clause-moves c = turn_tests c.args.functions.now c.args.frozen.now c.wait_or_come.result c.args.going.now c.wait_or_come.new.going c.args.budget c.args.n _ _ _ _ c.in-Ok.stmt c.if-n-gt0.true c.requires.kind c.in-Ok.ensures c.wait_or_come.ensures.moves
