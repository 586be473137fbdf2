use Rattle.py_tree.specs.Programs.{step_of, body_of}
use Rattle.py_definitions.proofs.DefLaws.{default_waits}
use Rattle.py_definitions.proofs.defs.defaults_turn.Goals as goal

pub returns-in-Ok-clause-moves : goal.returns-in-Ok-clause-moves
returns-in-Ok-clause-moves c = default_waits c.args.functions.now c.args.frozen.now c.wait_for.result c.args.going.now c.wait_for.new.going c.args.budget c.args.n _ c.args.s.now.place (body_of c.args.f.now) _ _ (step_of c.args.s.now) c.in-Ok.stmt c.args.vals c.requires c.in-Ok.ensures c.function_params.ensures c.in-Some.ensures c.wait_for.ensures.moves
