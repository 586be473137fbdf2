-- A branch goes on by the truth of its test.
use Rattle.std.proofs.Common.{sym}
use Rattle.py_turns.proofs.IfLaws.{branch_holds, branch_fails}
use Rattle.py_statements.proofs.stmt_if.branch_tested.Goals as goal

pub returns-then-holds-clause-moves : goal.returns-then-holds-clause-moves
returns-then-holds-clause-moves c = branch_holds c.args.functions.now c.args.frozen.now c.run_block.result c.args.going.now c.run_block.new.going c.args.budget c.args.n _ _ _ _ _ _ _ _ c.args.x c.in-Some-truth.holds c.requires.kind c.in-Some.ensures.0 c.branch_body.ensures (sym c.in-Some-truth.ensures) c.if-holds.true c.run_block.ensures.moves

pub returns-else-holds-clause-moves : goal.returns-else-holds-clause-moves
returns-else-holds-clause-moves c = branch_fails c.args.functions.now c.args.frozen.now c.branch_turn-in-Some-truth.result c.args.going.now c.branch_turn-in-Some-truth.new.going c.args.budget c.args.n _ _ _ _ _ _ c.args.x c.in-Some-truth.holds c.requires.kind c.in-Some.ensures.0 (sym c.in-Some-truth.ensures) c.if-holds.false c.branch_turn-in-Some-truth.ensures.moves
