use Rattle.std.proofs.Common.{ap, sym, ◌∙◌, position, Some}
use Rattle.py_values.specs.Bindings.{bound_in}
use Rattle.py_values.proofs.BindingLaws.{has_name, bound_in-front, bound_in-behind}
use Rattle.py_values.proofs.bindings.Bindings.get.Goals as goal

pub returns-in-Some : goal.returns-in-Some
returns-in-Some c =
    let name = c.args.name.now in
    let few = c.self.inside.few.items in
    let at = ap (position (has_name name)) (sym c.deref.ensures.value) ∙ sym c.place_in.ensures ∙ c.in-Some.is in
    let found = bound_in-front name few c.self.inside.more.entries c.in-Some.i c.index.result.now at in
    sym (ap (bound_in name) (sym c.self.view_is) ∙ found ∙ ap (λ e. Some e.1) (sym c.index.ensures))

pub returns-in-None : goal.returns-in-None
returns-in-None c =
    let name = c.args.name.now in
    let none = ap (position (has_name name)) (sym c.deref.ensures.value) ∙ sym c.place_in.ensures ∙ c.in-None.is in
    c.value_in.ensures ∙ sym (bound_in-behind name c.self.inside.few.items c.self.inside.more.entries none) ∙ ap (bound_in name) c.self.view_is
