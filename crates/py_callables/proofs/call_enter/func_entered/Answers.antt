use Rattle.std.proofs.Common.{sym, ◌∙◌}
use Rattle.py_callables.proofs.EnterLaws.{func_some}
use Rattle.py_callables.proofs.call_enter.func_entered.Goals as goal

pub returns-in-Some-clause-moves : goal.returns-in-Some-clause-moves
returns-in-Some-clause-moves c = func_some c.args.functions.now c.args.frozen.now c.code_entered.result c.args.going.now c.code_entered.new.going c.args.budget c.args.id.0 c.in-Some.f c.args.args c.args.keywords c.args.place (sym c.in-Some.is ∙ c.in-Ok.ensures) c.code_entered.ensures.moves
