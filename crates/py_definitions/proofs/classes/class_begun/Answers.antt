use Rattle.py_tree.specs.Programs.{steps_of}
use Rattle.py_definitions.proofs.ClassLaws.{begun_makes}
use Rattle.py_definitions.proofs.classes.class_begun.Goals as goal

pub returns-in-Ok-scope-clause-moves : goal.returns-in-Ok-scope-clause-moves
returns-in-Ok-scope-clause-moves c = begun_makes c.args.functions.now c.args.frozen.now c.class_within.result c.args.going.now c.class_within.new.going c.args.budget c.args.s.now.place c.args.name.now (steps_of c.args.body.now) c.args.keywords c.args.base c.in-Ok.own c.seen_from-enclosing.result c.in-Ok-scope.round c.scope.new.self c.in-Ok.ensures c.seen_from-enclosing.ensures c.in-Ok-scope.ensures c.class_within.ensures.moves
