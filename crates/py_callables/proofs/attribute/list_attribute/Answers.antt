use Rattle.std.proofs.Common.{ap, ◌∙◌}
use Rattle.py_frames.specs.Values.{list_method}
use Rattle.py_callables.proofs.AttributeLaws.{list_named}
use Rattle.py_callables.proofs.attribute.list_attribute.Goals as goal

pub returns-clause-moves : goal.returns-clause-moves
returns-clause-moves c = list_named _ _ _ _ _ _ c.args._rounds _ c.args.name.now _ c.list_method-method.result (c.list_method-method.ensures ∙ ap list_method c.as_str.ensures) c.builtin_method.ensures.moves
