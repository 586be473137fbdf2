use Rattle.py_machine.proofs.LifeLaws.{waiting_means}
use Rattle.py_machine.proofs.machine.answer_goes.Goals as goal

-- src/machine.rt:231:5
pub returns-in-Waiting-clause-moves : goal.returns-in-Waiting-clause-moves
returns-in-Waiting-clause-moves c = waiting_means c.args.functions.now c.args.frozen.now c.answered.result c.args.going.now c.answered.new.going c.args.budget c.args.stage.now c.in-Waiting.act c.in-Waiting.place c.in-Waiting.rounds c.args.answer c.in-Waiting.is c.answered.ensures.moves
