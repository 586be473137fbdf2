use Rattle.py_heap.specs.Heaps.{seen}
use Rattle.py_builtins.proofs.TupleLaws.{columns_start, columns_turn}
use Rattle.py_builtins.proofs.tuples.columns_back.Goals as goal

pub loop-i-init : goal.loop-i-init
loop-i-init c = columns_start (seen c.args.frozen.now c.args.heap.now) c.args.vs.now _ c.new-rows.result.items c.new-rows.ensures.items

pub loop-i-preserved : goal.loop-i-preserved
loop-i-preserved c =
    columns_turn (seen c.args.frozen.now c.args.heap.now) c.args.vs.now c.args.n c.loop-i.i c.in-Ok.row c.loop-i.rows.items c.push.new.self.items c.loop-i-test.true c.in-Ok.ensures c.in-Ok-push.ensures.items c.loop-i.invariant
