use Rattle.py_machine.proofs.LifeLaws.{body_goes}
use Rattle.py_machine.proofs.machine.file_begun.Goals as goal

-- src/machine.rt:214:5
pub returns-clause-moves : goal.returns-clause-moves
returns-clause-moves c = body_goes c.args.functions.now c.args.frozen.now c.block_under.result c.args.going.now c.block_under.new.going c.args.budget c.in-Ok.body c.in-Ok.ensures c.block_under.ensures.moves
