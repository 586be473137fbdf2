use Rattle.std.proofs.Common.{ap, ◌∙◌}
use Rattle.py_values.specs.Bindings.{is_among}
use Rattle.py_values.proofs.BindingLaws.{is_among-map}
use Rattle.py_values.proofs.bindings.OwnNames.has.Goals as goal

pub returns : goal.returns
returns c =
    c.has_name.ensures ∙ is_among-map c.args.name.now c.items.result.now ∙ ap (is_among c.args.name.now) (c.items.ensures ∙ c.deref.ensures ∙ c.self.view_is)
