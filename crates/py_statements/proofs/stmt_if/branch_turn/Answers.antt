-- The test of a branch is waited for.
use Rattle.py_turns.proofs.IfLaws.{if_tests}
use Rattle.py_statements.proofs.stmt_if.branch_turn.Goals as goal

pub returns-in-Some-clause-moves : goal.returns-in-Some-clause-moves
returns-in-Some-clause-moves c = if_tests c.args.functions.now c.args.frozen.now c.wait_or_come.result c.args.going.now c.wait_or_come.new.going c.args.budget c.args.n _ _ _ _ _ _ _ _ c.in-Ok.stmt c.requires.kind c.in-Ok.ensures c.in-Some.ensures.0 c.branch_test.ensures c.wait_or_come.ensures.moves
