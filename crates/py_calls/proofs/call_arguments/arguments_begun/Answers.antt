use Rattle.py_tree.specs.Seen.{trailer_of}
use Rattle.py_calls.proofs.ArgumentLaws.{arguments_first}
use Rattle.py_calls.proofs.call_arguments.arguments_begun.Goals as goal

pub returns-clause-moves : goal.returns-clause-moves
returns-clause-moves c = arguments_first c.args.functions.now c.args.frozen.now c.arguments.result c.args.going.now c.arguments.new.going c.args.budget c.args.node.now c.args.at (trailer_of c.args._trailer.now) c.args.v c.new-vals.result c.new-keywords.result c.args.purpose.now c.requires.here c.new-vals.ensures c.new-keywords.ensures c.arguments.ensures.moves
