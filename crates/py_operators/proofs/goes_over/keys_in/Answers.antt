use Rattle.std.proofs.Common.{Ok, ap}
use Rattle.py_operators.proofs.ElementLaws.{listed_turn, listed_end}
use Rattle.py_operators.proofs.goes_over.keys_in.Goals as goal

pub loop-i-preserved : goal.loop-i-preserved
loop-i-preserved c = listed_turn c.loop-i.keys c.push.new.self _ c.args.row.now c.loop-i.i c.index-row-i.result c.loop-i-test.true c.index-row-i.is c.in-Ok.ensures.ok c.loop-i.invariant

pub returns : goal.returns
returns c = ap Ok (listed_end c.loop-i.keys _ c.args.row.now c.loop-i.i c.loop-i-test.false c.loop-i.invariant)
