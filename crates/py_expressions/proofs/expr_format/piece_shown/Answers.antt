use Rattle.py_expressions.proofs.ExprFormat.{hole_stops, hole_carried}
use Rattle.py_expressions.proofs.expr_format.piece_shown.Goals as goal

pub returns-in-Err-spend-clause-shown : goal.returns-in-Err-spend-clause-shown
returns-in-Err-spend-clause-shown c = λ rest. hole_stops c.args.functions.now c.args.frozen.now c.in-Err-spend.halt c.args.going.now c.spend.new.going c.args.budget c.args.done.now c.in-Hole.name c.args.piece.now rest c.args.place c.in-Hole.is c.in-Err-spend.ensures

pub returns-in-Ok-spend-clause-shown : goal.returns-in-Ok-spend-clause-shown
returns-in-Ok-spend-clause-shown c = λ rest. hole_carried c.args.functions.now c.args.frozen.now c.hole_shown.result c.args.going.now c.spend.new.going c.hole_shown.new.going c.args.budget c.args.done.now c.hole_shown.new.done c.in-Hole.name c.args.piece.now rest c.args.place c.in-Hole.is c.in-Ok-spend.ensures c.hole_shown.ensures.state (c.hole_shown.ensures.shown rest)
