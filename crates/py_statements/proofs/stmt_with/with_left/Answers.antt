-- The store is told, and a frame keeps what came.
use Rattle.py_statements.proofs.WithLaws.{with_leaves}
use Rattle.py_statements.proofs.stmt_with.with_left.Goals as goal

pub returns-clause-moves : goal.returns-clause-moves
returns-clause-moves c = with_leaves c.args.functions.now c.args.frozen.now c.ask_under.result c.args.going.now c.ask_under.new.going c.args.budget c.args.place c.args.thing c.args.got c.in-Ok.request c.in-Ok.ensures c.ask_under.ensures.moves
