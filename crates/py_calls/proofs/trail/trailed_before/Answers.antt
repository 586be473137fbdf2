use Rattle.std.proofs.Common.{refl}
use Rattle.py_tree.specs.Seen.{tree, trailer_of}
use Rattle.py_frames.specs.Parts.{place_of}
use Rattle.py_frames.specs.Expressions.{trailed_one}
use Rattle.py_frames.proofs.TrailLaws.{trail_more}
use Rattle.py_frames.proofs.CallGoes.{waited}
use Rattle.py_calls.proofs.trail.trailed_before.Goals as goal

pub returns-in-Ok-push-clause-moves : goal.returns-in-Ok-push-clause-moves
returns-in-Ok-push-clause-moves c = trail_more c.args.functions.now c.args.frozen.now c.trailed_one.result c.args.going.now c.trailed_one.new.going c.args.budget c.args.at c.args.next c.args.node.now c.in-Ok-share.more (trailer_of c.args.trailer.now) c.args.purpose c.in-Ok.part c.args.v c.requires.here c.requires.behind c.in-Ok-share.ensures c.in-Ok.ensures (waited c.args.functions.now c.args.frozen.now c.trailed_one.result c.args.going.now c.trailed_one.new.going c.args.budget _ _ (λ k. trailed_one k c.in-Ok.part (place_of (tree c.args.node.now)) (trailer_of c.args.trailer.now) c.args.v) c.in-Ok-push.ensures c.trailed_one.ensures.moves refl)
