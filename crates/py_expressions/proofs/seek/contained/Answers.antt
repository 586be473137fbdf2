use Rattle.std.proofs.Common.{sym, ◌∙◌}
use Rattle.py_expressions.proofs.SeekLaws.{contained_goes, contained_refused}
use Rattle.py_expressions.proofs.seek.contained.Goals as goal

pub returns-in-Ok-clause-moves : goal.returns-in-Ok-clause-moves
returns-in-Ok-clause-moves c = contained_goes c.args.functions.now c.args.frozen.now c.sought.result c.args.going.now c.sought.new.going c.args.budget c.args.sign c.args.op c.args.a.now c.args.b.now c.args.place c.in-Ok.row (sym c.seeks_things.ensures ∙ c.if-not-seeks_things.false) c.in-Ok.ensures c.sought.ensures.moves

pub returns-in-Err-clause-moves : goal.returns-in-Err-clause-moves
returns-in-Err-clause-moves c = rw c.refused.ensures (contained_refused c.args.functions.now c.args.frozen.now c.args.going.now c.args.budget c.args.sign c.args.op c.args.a.now c.args.b.now c.args.place c.in-Err.stop (sym c.seeks_things.ensures ∙ c.if-not-seeks_things.false) c.in-Err.ensures)
