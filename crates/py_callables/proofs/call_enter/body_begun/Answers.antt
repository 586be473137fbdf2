use Rattle.py_tree.specs.Programs.{steps_of}
use Rattle.py_callables.proofs.EnterLaws.{body_pushed}
use Rattle.py_callables.proofs.call_enter.body_begun.Goals as goal

pub returns-in-Ok-clause-moves : goal.returns-in-Ok-clause-moves
returns-in-Ok-clause-moves c = body_pushed c.args.functions.now c.args.frozen.now c.run_block.result c.args.going.now c.run_block.new.going c.args.budget c.args.here c.replace-outer.new.dest c.replace-outer.result c.args.bound (steps_of c.args.block.now) c.push.new.self c.replace-outer.ensures.value c.replace-outer.ensures.after c.in-Ok.ensures c.run_block.ensures.moves
