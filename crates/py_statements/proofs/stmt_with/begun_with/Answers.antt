-- The context of a `with` is waited for.
use Rattle.py_statements.proofs.WithLaws.{with_begins}
use Rattle.py_statements.proofs.stmt_with.begun_with.Goals as goal

pub returns-clause-moves : goal.returns-clause-moves
returns-clause-moves c = with_begins c.args.functions.now c.args.frozen.now c.wait_for.result c.args.going.now c.wait_for.new.going c.args.budget _ _ _ _ _ c.in-Ok.stmt c.requires c.in-Ok.ensures c.wait_for.ensures.moves
