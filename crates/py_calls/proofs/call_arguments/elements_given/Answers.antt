use Rattle.std.proofs.Common.{List, ◌++◌, ◌∙◌, ap}
use Rattle.py_tree.specs.Seen.{tree}
use Rattle.py_values.specs.declared.val.Val.{Val}
use Rattle.py_frames.specs.Parts.{place_of, trailers_from}
use Rattle.py_frames.specs.Call_frames.{trailers_of, call_arguments}
use Rattle.py_calls.proofs.ArgumentLaws.{arguments_extended}
use Rattle.py_calls.proofs.call_arguments.elements_given.Goals as goal

pub returns-in-Ok-extend-clause-moves : goal.returns-in-Ok-extend-clause-moves
returns-in-Ok-extend-clause-moves c = arguments_extended c.args.functions.now c.args.frozen.now c.arguments.result c.args.going.now c.arguments.new.going c.args.budget (place_of (tree c.args.node.now)) c.args.vals c.args.elements.now c.extend.new.self c.args.keywords c.args.at c.in-Ok.next (call_arguments (trailers_from c.args.trailer (trailers_of (tree c.args.node.now)))) c.args.callee c.args.purpose.now (c.in-Ok-extend.ensures.ok ∙ ap (λ (z : List Val). c.args.vals ++ z) c.as_slice.ensures) c.in-Ok.ensures c.arguments.ensures.moves
