use Rattle.py_definitions.proofs.DefGoes.{end_asks}
use Rattle.py_definitions.proofs.def_goes.body_ended.Goals as goal

pub returns-clause-moves : goal.returns-clause-moves
returns-clause-moves c = end_asks c.args.functions.now c.args.frozen.now c.ask.result c.args.going.now c.ask.new.going c.args.budget c.in-Ok.names c.in-Ok-end_request.request c.in-Ok.ensures c.in-Ok-end_request.ensures c.ask.ensures.moves
