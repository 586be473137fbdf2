use Rattle.std.proofs.Common.{ap, sym, ◌∙◌, slice_get, ◌-◌}
use Rattle.std.proofs.lemmas.Bool.{ltb-false}
use Rattle.py_values.specs.Bindings.{by_bytes}
use Rattle.py_values.proofs.BindingLaws.{slice_get-behind}
use Rattle.py_values.proofs.bindings.Bindings.at.Goals as goal

pub returns-in-None : goal.returns-in-None
returns-in-None c =
    let few = c.self.inside.few in
    let more = c.self.inside.more.entries in
    let past = ltb-false c.args.i _ (sym c.in-None.ensures.lookup.0) in
    ap (λ bs. slice_get bs c.args.i) (sym c.self.view_is) ∙ slice_get-behind few.items more c.args.i (rw c.deref.ensures.value at past)
    ∙ ap (λ n. slice_get (by_bytes more) (c.args.i - n)) (sym few.ok.0 ∙ sym c.len.ensures) ∙ c.entry_at.ensures
