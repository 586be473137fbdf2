use Rattle.py_tree.specs.Seen.{trailer_of}
use Rattle.py_calls.proofs.TrailEnds.{trail_last}
use Rattle.py_calls.proofs.trail.trail.Goals as goal

pub returns-in-None-clause-moves : goal.returns-in-None-clause-moves
returns-in-None-clause-moves c = trail_last c.args.functions.now c.args.frozen.now c.trailed_one.result c.args.going.now c.trailed_one.new.going c.args.budget c.args.at c.in-Ok.next c.args.node.now (trailer_of c.in-Some.trailer.now) c.args.purpose c.args.v c.in-Some.ensures c.in-Ok.ensures c.in-None.ensures c.trailed_one.ensures.moves
