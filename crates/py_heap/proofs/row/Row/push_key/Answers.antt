use Rattle.std.proofs.Common.{◌∙◌, sym, subst, ap}
use Rattle.py_heap.specs.Keys.{AreCoded, AddsAtMost, code_behind}
use Rattle.py_heap.proofs.KeyLaws.{coded_pushed}
use Rattle.py_heap.proofs.row.Row.push_key.Goals as goal

pub invariant_of-self : goal.invariant_of-self
invariant_of-self c = subst (AreCoded c.self.inside.codes.keys) (sym c.in_default.ensures.err) c.self.invariant

pub invariant_of-self-2 : goal.invariant_of-self-2
invariant_of-self-2 c =
    let cs = c.self.inside.codes.keys in
    let e = c.code_behind-code.ensures ∙ ap (λ row. code_behind cs row c.args.k.now) c.as_slice.ensures in
    let a = subst (λ code. AddsAtMost code cs c.add_code.new.codes.keys) e c.add_code.ensures in
    subst (AreCoded c.add_code.new.codes.keys) (sym c.in-Ok.ensures.ok) (coded_pushed cs c.add_code.new.codes.keys c.self.inside.items c.args.k.now c.args.v c.self.invariant a)
