-- The source of a `for` is waited for.
use Rattle.py_walks.proofs.ForLaws.{for_waits}
use Rattle.py_walks.proofs.loops.for_begun.Goals as goal

pub returns-clause-moves : goal.returns-clause-moves
returns-clause-moves c = for_waits c.args.functions.now c.args.frozen.now c.wait_for.result c.args.going.now c.wait_for.new.going c.args.budget _ _ _ _ _ c.in-Ok.stmt c.requires c.in-Ok.ensures c.wait_for.ensures.moves
