-- A value that is returned is waited for.
use Rattle.py_turns.proofs.StmtBegins.{return_begins}
use Rattle.py_turns.proofs.stmt_plain.begun_return.Goals as goal

pub returns-in-Some-clause-moves : goal.returns-in-Some-clause-moves
returns-in-Some-clause-moves c = return_begins c.args.functions.now c.args.frozen.now c.returned.result c.args.going.now c.returned.new.going c.args.budget _ _ c.in-Some.is c.returned.ensures.moves
