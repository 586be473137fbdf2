use Rattle.std.proofs.Common.{ap, ◌∙◌}
use Rattle.py_frames.specs.Values.{dict_method}
use Rattle.py_callables.proofs.AttributeLaws.{dict_named}
use Rattle.py_callables.proofs.attribute.dict_attribute.Goals as goal

pub returns-clause-moves : goal.returns-clause-moves
returns-clause-moves c = dict_named _ _ _ _ _ _ c.args._rounds _ c.args.name.now _ c.dict_method-method.result (c.dict_method-method.ensures ∙ ap dict_method c.as_str.ensures) c.builtin_method.ensures.moves
