use Rattle.py_expressions.proofs.SeekLaws.{compared_stops, compared_found, compared_next}
use Rattle.py_expressions.proofs.seek.element_compared.Goals as goal

pub returns-in-Err-clause-moves : goal.returns-in-Err-clause-moves
returns-in-Err-clause-moves c = compared_stops c.args.functions.now c.args.frozen.now c.in-Err.halt c.args.going.now c.args.budget c.args.next c.args.sign c.args.a c.args.gave c.args.row c.args.place c.in-Err.ensures

pub returns-in-Ok-true-clause-moves : goal.returns-in-Ok-true-clause-moves
returns-in-Ok-true-clause-moves c = compared_found c.args.functions.now c.args.frozen.now c.args.going.now c.args.budget c.args.next c.args.sign c.in-Ok-true.field-0 c.args.a c.args.gave c.args.row c.args.place c.in-Ok-true.ensures c.in-Ok-true.field-0-test

pub returns-in-Ok-false-clause-moves : goal.returns-in-Ok-false-clause-moves
returns-in-Ok-false-clause-moves c = compared_next c.args.functions.now c.args.frozen.now c.sought.result c.args.going.now c.sought.new.going c.args.budget c.args.next c.args.sign c.in-Ok-false.field-0 c.args.a c.args.gave c.args.row c.args.place c.in-Ok-false.ensures c.in-Ok-false.field-0-test c.sought.ensures.moves
