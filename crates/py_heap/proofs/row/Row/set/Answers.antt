use Rattle.std.proofs.Common.{sym, subst}
use Rattle.py_heap.specs.Keys.{AreCoded}
use Rattle.py_heap.proofs.KeyLaws.{coded_set}
use Rattle.py_heap.proofs.row.Row.set.Goals as goal

pub invariant_of-self : goal.invariant_of-self
invariant_of-self c =
    let a = coded_set c.self.inside.codes.keys c.self.inside.items c.args.i c.args.item c.self.invariant in
    let b = subst (AreCoded _) (sym c.set.ensures) a in
    subst (λ cs. AreCoded cs c.set.new.self) (sym c.clear_for.ensures) b
