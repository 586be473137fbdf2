-- A comprehension spends its unit, and begins.
use Rattle.py_calls.proofs.CallOfLaws.{list_spends, list_stops}
use Rattle.py_calls.proofs.call_of.list_begun.Goals as goal

pub returns-in-Ok-clause-moves : goal.returns-in-Ok-clause-moves
returns-in-Ok-clause-moves c = list_spends c.args.functions.now c.args.frozen.now c.begun_comprehension.result c.args.going.now c.spend.new.going c.begun_comprehension.new.going c.args.budget tt c.args.place c.args.comp c.in-Ok.ensures c.begun_comprehension.ensures.grows c.begun_comprehension.ensures.moves

pub returns-in-Err-clause-moves : goal.returns-in-Err-clause-moves
returns-in-Err-clause-moves c = list_stops c.args.functions.now c.args.frozen.now c.in-Err.halt c.args.going.now c.spend.new.going c.args.budget c.args.place c.args.comp c.in-Err.ensures
