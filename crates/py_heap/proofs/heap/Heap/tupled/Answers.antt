use Rattle.std.proofs.Common.{◌≡◌, ◌+◌, ◌*◌, drop, ap, sym, ◌∙◌, arith}
use Rattle.py_heap.specs.Dicts.{tupled}
use Rattle.py_heap.proofs.DictLaws.{drop_pair, tuple_turn, tuple_stop, tuple_end}
use Rattle.py_heap.proofs.heap.Heap.tupled.Goals as goal

pub returns-in-Err : goal.returns-in-Err
returns-in-Err c =
    let here = drop_pair c.args.row.now c.loop-i.i c.index-row-i.result c.index-row-i-in-loop-i.result (omega arith) c.index-row-i.is c.index-row-i-in-loop-i.is in
    rw (← c.loop-i.invariant, here) (tuple_stop c.args.frozen.now c.loop-i.self c.loop-i.all (drop (2 * (c.loop-i.i + 1)) c.args.row.now) c.index-row-i.result c.index-row-i-in-loop-i.result c.in-Err.stop c.in-Err.ensures)

pub loop-i-preserved : goal.loop-i-preserved
loop-i-preserved c =
    let here = drop_pair c.args.row.now c.loop-i.i c.index-row-i.result c.index-row-i-in-loop-i.result (omega arith) c.index-row-i.is c.index-row-i-in-loop-i.is in
    sym (ap (tupled c.args.frozen.now c.loop-i.self c.loop-i.all) here ∙ tuple_turn c.args.frozen.now c.loop-i.self c.loop-i.all c.push.new.self (drop (2 * (c.loop-i.i + 1)) c.args.row.now) c.index-row-i.result c.index-row-i-in-loop-i.result c.in-Ok.t c.pair_tuple.new.self c.in-Ok.ensures c.in-Ok-push.ensures.ok) ∙ c.loop-i.invariant

pub returns : goal.returns
returns c =
    sym c.loop-i.invariant ∙ tuple_end c.args.frozen.now c.loop-i.self c.loop-i.all c.args.row.now (2 * c.loop-i.i) (omega arith)
