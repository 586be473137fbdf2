use Rattle.std.proofs.Common.{◌∙◌}
use Rattle.py_tree.specs.Programs.{steps_of}
use Rattle.py_definitions.proofs.ClassLaws.{within_makes}
use Rattle.py_definitions.proofs.classes.class_within.Goals as goal

pub returns-in-Ok-scope-clause-moves : goal.returns-in-Ok-scope-clause-moves
returns-in-Ok-scope-clause-moves c = within_makes c.args.functions.now c.args.frozen.now c.class_inside.result c.args.going.now c.class_inside.new.going c.args.budget c.args.s.now.place c.args.name.now (steps_of c.args.body.now) c.args.keywords c.args.base c.in-Ok-new.own c.args.round c.in-Ok-scope.scope c.scope.new.self (c.in-Ok-new.ensures ∙ c.in-Ok.ensures) c.in-Ok-scope.ensures c.class_inside.ensures.moves
