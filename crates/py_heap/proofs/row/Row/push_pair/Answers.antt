use Rattle.std.proofs.Common.{[], ◌∷◌}
use Rattle.py_heap.proofs.KeyLaws.{coded_either}
use Rattle.py_heap.proofs.row.Row.push_pair.Goals as goal

pub invariant_of-self : goal.invariant_of-self
invariant_of-self c = coded_either c.self.inside.codes.keys c.self.inside.items (c.args.first ∷ c.args.second ∷ []) c.push_pair.new.self c.push_pair.result c.self.invariant c.push_pair.ensures.ok c.push_pair.ensures.err
