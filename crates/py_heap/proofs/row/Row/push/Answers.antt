use Rattle.std.proofs.Common.{[], ◌∷◌}
use Rattle.py_heap.proofs.KeyLaws.{coded_either}
use Rattle.py_heap.proofs.row.Row.push.Goals as goal

pub invariant_of-self : goal.invariant_of-self
invariant_of-self c = coded_either c.self.inside.codes.keys c.self.inside.items (c.args.item ∷ []) c.push.new.self c.push.result c.self.invariant c.push.ensures.ok c.push.ensures.err
