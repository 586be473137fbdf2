use Rattle.std.proofs.Common.{[], ◌∷◌, ◌++◌, refl}
use Rattle.py_tree.specs.Seen.{tree}
use Rattle.py_frames.specs.Parts.{place_of, trailers_from}
use Rattle.py_frames.specs.Call_frames.{trailers_of, call_arguments}
use Rattle.py_calls.proofs.ArgumentLaws.{arguments_same}
use Rattle.py_calls.proofs.call_arguments.positional_given.Goals as goal

pub returns-in-Ok-push-clause-moves : goal.returns-in-Ok-push-clause-moves
returns-in-Ok-push-clause-moves c = arguments_same c.args.functions.now c.args.frozen.now c.arguments_waited.result c.args.going.now c.arguments_waited.new.going c.args.budget (place_of (tree c.args.node.now)) (c.args.vals ++ c.args.v ∷ []) c.push.new.self c.args.keywords c.args.keywords c.args.at c.in-Ok.next (call_arguments (trailers_from c.args.trailer (trailers_of (tree c.args.node.now)))) c.args.callee c.args.purpose.now c.in-Ok-push.ensures.ok refl c.in-Ok.ensures c.arguments_waited.ensures.moves
