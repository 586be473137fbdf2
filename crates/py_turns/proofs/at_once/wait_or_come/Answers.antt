use Rattle.py_tree.specs.Seen.{tree}
use Rattle.py_turns.proofs.AtOnceLaws.{at_once_comes}
use Rattle.py_turns.proofs.at_once.wait_or_come.Goals as goal

pub returns-in-Ok-clause-moves : goal.returns-in-Ok-clause-moves
returns-in-Ok-clause-moves c = at_once_comes c.args.functions.now c.args.frozen.now c.args.going.now c.args.budget c.args.frame c.push.new.self (tree c.args.part.now) c.in-Some.found c.in-Some.ensures.value c.in-Some.ensures.room c.in-Ok.ensures c.requires.room
