use Rattle.std.proofs.Common.{◌+◌}
use Rattle.py_tree.specs.Seen.{tree, argument_of}
use Rattle.py_tree.specs.Programs.{step_of}
use Rattle.py_frames.specs.Parts.{arguments_from}
use Rattle.py_frames.specs.Def_frames.{class_arguments}
use Rattle.py_definitions.proofs.ClassLaws.{argument_waits}
use Rattle.py_definitions.proofs.class_arguments.class_arguments_turn.Goals as goal

pub returns-clause-moves : goal.returns-clause-moves
returns-clause-moves c = argument_waits c.args.functions.now c.args.frozen.now c.wait_for.result c.args.going.now c.wait_for.new.going c.args.budget c.args.n (tree c.argument_value.result.now) (argument_of c.in-Some.g.now) (arguments_from (c.args.n + 1) (class_arguments (step_of c.args.s.now))) (step_of c.args.s.now) c.in-Ok.stmt c.args.vals c.args.keywords c.in-Ok.ensures c.in-Some.ensures.0 c.argument_value.ensures c.wait_for.ensures.moves
