use Rattle.py_tree.specs.Programs.{body_of}
use Rattle.py_definitions.proofs.DefLaws.{function_made}
use Rattle.py_definitions.proofs.defs.function_bound.Goals as goal

pub returns-in-Ok-clause-moves : goal.returns-in-Ok-clause-moves
returns-in-Ok-clause-moves c = function_made c.args.functions.now c.args.frozen.now c.name_bound.result c.args.going.now c.name_bound.new.going c.args.budget c.function.new.self c.in-Ok.v c.args.s.now.place c.function_place.result c.function_name.result.now (body_of c.args.f.now) c.args.defaults c.seen_from-scope.result c.function_place.ensures c.function_name.ensures c.seen_from-scope.ensures c.in-Ok.ensures c.name_bound.ensures.moves
