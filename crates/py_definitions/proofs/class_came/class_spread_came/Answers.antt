use Rattle.std.proofs.Common.{◌+◌}
use Rattle.py_tree.specs.Programs.{step_of}
use Rattle.py_frames.specs.Parts.{arguments_from}
use Rattle.py_frames.specs.Def_frames.{class_arguments}
use Rattle.py_definitions.proofs.ClassLaws.{spread_on, spread_refused}
use Rattle.py_definitions.proofs.class_came.class_spread_came.Goals as goal

pub returns-in-Ok-clause-moves : goal.returns-in-Ok-clause-moves
returns-in-Ok-clause-moves c = spread_on c.args.functions.now c.args.frozen.now c.class_extended.result c.args.going.now c.class_extended.new.going c.args.budget c.args.n _ (arguments_from (c.args.n + 1) (class_arguments (step_of c.args.s.now))) (step_of c.args.s.now) c.args.vals c.in-Ok.items c.args.keywords c.args.row c.in-Some.ensures.0 c.in-Ok.ensures c.class_extended.ensures.moves

pub returns-in-Err-clause-moves : goal.returns-in-Err-clause-moves
returns-in-Err-clause-moves c = rw c.refused.ensures (spread_refused c.args.functions.now c.args.frozen.now c.args.going.now c.args.budget c.args.n _ (arguments_from (c.args.n + 1) (class_arguments (step_of c.args.s.now))) (step_of c.args.s.now) c.class_place.result c.args.vals c.in-Err.stop c.args.keywords c.args.row c.in-Some.ensures.0 c.class_place.ensures c.in-Err.ensures)
