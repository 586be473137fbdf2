-- The list of a comprehension is waited for.
use Rattle.std.proofs.Common.{refl, ap, ◌∙◌}
use Rattle.std.specs.Prelude.{◌∷◌, Some}
use Rattle.py_tree.specs.Seen.{tree, each_of}
use Rattle.py_frames.specs.declared.frame.Frame.TheVariants as frame
use Rattle.py_frames.specs.declared.frame.CallFrame.TheVariants as call
use Rattle.py_frames.specs.declared.frame.Purpose.{Purpose}
use Rattle.py_calls.proofs.CallOfLaws.{list_comes}
use Rattle.py_calls.proofs.call_of.call_of_begun.Goals as goal

pub returns-in-Ok-push-clause-moves : goal.returns-in-Ok-push-clause-moves
returns-in-Ok-push-clause-moves c = list_comes c.args.functions.now c.args.frozen.now c.list_begun.result c.args.going.now c.list_begun.new.going c.args.budget c.args.at (tree c.args.node.now) (tree c.args.e.now) (each_of c.args._each.now) c.in-Ok.node (record { node = c.in-Ok.node; trailer = Some c.args.at }) c.args.purpose.now c.args.v c.place_of-place.result c.place_of.result _ c.in-Ok.ensures c.requires.here refl c.place_of-place.ensures c.place_of.ensures (c.in-Ok-push.ensures ∙ ap (λ (u : Purpose). frame.Call (call.ListGiven c.args.v u c.place_of-place.result) ∷ c.args.going.now.frames) c.in-Ok-share_purpose.ensures) c.list_begun.ensures.moves
