use Rattle.std.proofs.Common.{sym, ◌∙◌}
use Rattle.py_callables.proofs.SumLaws.{asked_goes, asked_refused}
use Rattle.py_callables.proofs.call_sum.sum_asked.Goals as goal

pub returns-in-Ok-clause-moves : goal.returns-in-Ok-clause-moves
returns-in-Ok-clause-moves c = asked_goes c.args.functions.now c.args.frozen.now c.summed.result c.args.going.now c.summed.new.going c.args.budget c.args.args.now c.in-Some.row c.start_of-start.result c.in-Ok.vals c.args.place (sym c.in-Some.is ∙ c.first_of.ensures) c.start_of-start.ensures c.in-Ok.ensures c.summed.ensures.moves

pub returns-in-Err-clause-moves : goal.returns-in-Err-clause-moves
returns-in-Err-clause-moves c = rw c.refused.ensures (asked_refused c.args.functions.now c.args.frozen.now c.args.going.now c.args.budget c.args.args.now c.in-Some.row c.args.place c.in-Err.stop (sym c.in-Some.is ∙ c.first_of.ensures) c.in-Err.ensures)
