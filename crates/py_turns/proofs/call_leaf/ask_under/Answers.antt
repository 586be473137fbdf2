-- A request is asked under a frame.
use Rattle.py_turns.proofs.AskLaws.{ask_waited}
use Rattle.py_turns.proofs.call_leaf.ask_under.Goals as goal

pub returns-in-Ok-clause-moves : goal.returns-in-Ok-clause-moves
returns-in-Ok-clause-moves c = ask_waited c.args.functions.now c.args.frozen.now c.ask.result c.args.going.now c.ask.new.going c.args.budget c.args.frame _ c.args.request c.requires c.in-Ok.ensures c.ask.ensures.moves
