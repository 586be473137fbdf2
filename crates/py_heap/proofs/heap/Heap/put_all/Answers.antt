use Rattle.std.proofs.Common.{◌≡◌, ◌+◌, ◌*◌, drop, Ok, ap, sym, ◌∙◌, arith}
use Rattle.py_heap.specs.Heaps.{seen}
use Rattle.py_heap.specs.Dicts.{put_all}
use Rattle.py_heap.proofs.DictLaws.{drop_pair, put_turn, put_end}
use Rattle.py_heap.proofs.heap.Heap.put_all.Goals as goal

pub loop-i-preserved : goal.loop-i-preserved
loop-i-preserved c =
    let here = drop_pair c.args.pairs.now c.loop-i.i c.index-pairs-i.result c.index-pairs-i-in-loop-i.result (omega arith) c.index-pairs-i.is c.index-pairs-i-in-loop-i.is in
    sym (ap (put_all (seen c.args.frozen.now c.args.self.now) c.loop-i.row) here ∙ put_turn (seen c.args.frozen.now c.args.self.now) c.loop-i.row c.put.new.row c.index-pairs-i.result c.index-pairs-i-in-loop-i.result (drop (2 * (c.loop-i.i + 1)) c.args.pairs.now) c.in-Ok.ensures) ∙ c.loop-i.invariant

pub returns : goal.returns
returns c =
    ap Ok (sym c.loop-i.invariant ∙ put_end (seen c.args.frozen.now c.args.self.now) c.loop-i.row c.args.pairs.now (2 * c.loop-i.i) (omega arith))
