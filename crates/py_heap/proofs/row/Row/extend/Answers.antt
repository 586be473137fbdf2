use Rattle.py_heap.proofs.KeyLaws.{coded_either}
use Rattle.py_heap.proofs.row.Row.extend.Goals as goal

pub invariant_of-self : goal.invariant_of-self
invariant_of-self c = coded_either c.self.inside.codes.keys c.self.inside.items c.args.items.now c.extend.new.self c.extend.result c.self.invariant c.extend.ensures.ok c.extend.ensures.err
