use Rattle.py_callables.proofs.AttributeLaws.{above_class_read}
use Rattle.py_callables.proofs.attribute_super.above_this_class.Goals as goal

pub returns-clause-moves : goal.returns-clause-moves
returns-clause-moves c = above_class_read c.args.functions.now c.args.frozen.now c.above.result c.args.going.now c.above.new.going c.args.budget c.args.rounds c.args.this c.args.class.0 c.args.name.now c.args.place c.first_of_row-base.result c.first_of_row-base.ensures c.above.ensures.moves
