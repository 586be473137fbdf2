use Rattle.py_callables.proofs.SumLaws.{over_things, over_plain}
use Rattle.py_callables.proofs.call_sum.built_over.Goals as goal

pub returns-in-Ok-true-clause-moves : goal.returns-in-Ok-true-clause-moves
returns-in-Ok-true-clause-moves c = over_things c.args.functions.now c.args.frozen.now c.sum_asked.result c.args.going.now c.sum_asked.new.going c.args.budget c.args.builtin c.args.vals c.as_slice.result.now c.as_slice-in-Ok-true.result.now c.args.place c.in-Ok-true.field-0 c.in-Sum.is c.as_slice.ensures c.as_slice-in-Ok-true.ensures c.in-Ok-true.ensures c.in-Ok-true.field-0-test c.sum_asked.ensures.moves

pub returns-in-Ok-false-clause-moves : goal.returns-in-Ok-false-clause-moves
returns-in-Ok-false-clause-moves c = over_plain c.args.functions.now c.args.frozen.now c.built.result c.args.going.now c.built.new.going c.args.budget c.args.builtin c.args.vals c.as_slice.result.now c.args.place c.in-Ok-false.field-0 c.in-Sum.is c.as_slice.ensures c.in-Ok-false.ensures c.in-Ok-false.field-0-test c.built.ensures.moves
