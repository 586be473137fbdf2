-- An imported name is bound, or that is refused.
use Rattle.std.proofs.Common.{◌∙◌}
use Rattle.py_statements.proofs.ImportLaws.{import_binds, import_refused}
use Rattle.py_statements.proofs.imports.import_bound.Goals as goal

pub returns-in-Ok-clause-moves : goal.returns-in-Ok-clause-moves
returns-in-Ok-clause-moves c = import_binds c.args.functions.now c.args.frozen.now c.import_turn.result c.args.going.now c.bind.new.going c.import_turn.new.going c.args.budget c.args.n _ _ _ _ _ c.args.v c.in-Ok.field-0 c.as_str.result.now c.requires c.in-Some.ensures.0 (c.as_str.ensures ∙ c.imported_as.ensures) c.in-Ok.ensures.binds c.import_turn.ensures.moves

pub returns-in-Err-clause-moves : goal.returns-in-Err-clause-moves
returns-in-Err-clause-moves c = import_refused c.args.functions.now c.args.frozen.now c.in-Err.halt c.args.going.now c.bind.new.going c.args.budget c.args.n _ _ _ _ _ c.args.v c.as_str.result.now c.requires c.in-Some.ensures.0 (c.as_str.ensures ∙ c.imported_as.ensures) c.in-Err.ensures.binds
