use Rattle.py_tree.specs.Seen.{tree}
use Rattle.py_frames.specs.Parts.{place_of, trailers_from}
use Rattle.py_frames.specs.Call_frames.{trailers_of, call_arguments}
use Rattle.py_calls.proofs.ArgumentLaws.{spread_more}
use Rattle.py_calls.proofs.call_arguments.elements_came.Goals as goal

pub returns-in-Some-clause-moves : goal.returns-in-Some-clause-moves
returns-in-Some-clause-moves c = spread_more c.args.functions.now c.args.frozen.now c.elements_spread.result c.args.going.now c.elements_spread.new.going c.args.budget (place_of (tree c.args.node.now)) c.args.vals c.args.keywords c.args.at (call_arguments (trailers_from c.args.trailer (trailers_of (tree c.args.node.now)))) c.args.row c.args.callee c.args.purpose.now _ c.in-Some.ensures c.elements_spread.ensures.moves
