use Rattle.std.proofs.Common.{refl}
use Rattle.py_tree.specs.Seen.{tree}
use Rattle.py_frames.specs.Values.{attribute}
use Rattle.py_calls.proofs.AugmentLaws.{attribute_begins}
use Rattle.py_frames.proofs.CallGoes.{waited}
use Rattle.py_calls.proofs.trail_augment.attribute_changes.Goals as goal

pub returns-in-Ok-push-clause-moves : goal.returns-in-Ok-push-clause-moves
returns-in-Ok-push-clause-moves c = attribute_begins c.args.functions.now c.args.frozen.now c.attribute.result c.args.going.now c.attribute.new.going c.args.budget c.args.stmt.now c.in-Ok.stmt c.args.stmt.now.place c.place_at-place.result (tree c.args.target.now) c.args._op (tree c.args._right.now) c.args.name.now c.in-Ok-share.changed c.args.over.now c.requires.here c.in-Ok.ensures c.in-Ok-share.ensures c.place_at-place.ensures (waited c.args.functions.now c.args.frozen.now c.attribute.result c.args.going.now c.attribute.new.going c.args.budget _ _ (λ k. attribute k c.args.over.now c.args.name.now c.place_at-place.result) c.in-Ok-push.ensures c.attribute.ensures.moves refl)
