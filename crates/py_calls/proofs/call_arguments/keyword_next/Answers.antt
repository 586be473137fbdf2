use Rattle.std.proofs.Common.{[], ◌∷◌, ◌++◌, ◌∙◌, refl, ap}
use Rattle.py_tree.specs.Seen.{tree}
use Rattle.py_frames.specs.declared.request.NamedVal.{NamedVal}
use Rattle.py_frames.specs.Functions.{named_val}
use Rattle.py_frames.specs.Parts.{place_of, trailers_from}
use Rattle.py_frames.specs.Call_frames.{trailers_of, call_arguments}
use Rattle.py_calls.proofs.ArgumentLaws.{arguments_same}
use Rattle.py_calls.proofs.call_arguments.keyword_next.Goals as goal

pub returns-in-Ok-push-clause-moves : goal.returns-in-Ok-push-clause-moves
returns-in-Ok-push-clause-moves c = arguments_same c.args.functions.now c.args.frozen.now c.arguments.result c.args.going.now c.arguments.new.going c.args.budget (place_of (tree c.args.node.now)) c.args.vals c.args.vals (c.args.keywords ++ named_val c.args.name.now c.args.v ∷ []) c.push.new.self c.args.at c.in-Ok.next (call_arguments (trailers_from c.args.trailer (trailers_of (tree c.args.node.now)))) c.args.callee c.args.purpose.now refl (c.in-Ok-push.ensures.ok ∙ ap (λ (z : NamedVal). c.args.keywords ++ z ∷ []) c.in-Ok-named_val.ensures) c.in-Ok.ensures c.arguments.ensures.moves
