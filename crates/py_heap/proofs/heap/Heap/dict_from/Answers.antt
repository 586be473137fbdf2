use Rattle.py_heap.specs.Heaps.{seen}
use Rattle.py_heap.specs.Dicts.{pairs_in}
use Rattle.py_heap.proofs.DictLaws.{given_ok}
use Rattle.py_heap.proofs.heap.Heap.dict_from.Goals as goal

pub returns-in-Ok : goal.returns-in-Ok
returns-in-Ok c =
    rw (given_ok (pairs_in (seen c.args.frozen.now c.args.self.now) c.args.v) c.in-Ok.pairs c.in-Ok.ensures) c.dict.ensures
