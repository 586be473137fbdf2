use Rattle.std.proofs.Common.{◌∙◌}
use Rattle.py_values.proofs.BindingLaws.{lookup-by_bytes}
use Rattle.py_values.proofs.bindings.value_in.Goals as goal

pub returns : goal.returns
returns c = c.copied.ensures ∙ c.get.ensures.value ∙ lookup-by_bytes c.args.name.now c.args.more.now.entries
