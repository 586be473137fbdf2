use Rattle.std.proofs.Common.{refl}
use Rattle.py_tree.specs.Seen.{tree, trailer_of}
use Rattle.py_frames.specs.declared.frame.Purpose.TheVariants.{Plain}
use Rattle.py_frames.specs.Parts.{place_of}
use Rattle.py_frames.specs.Expressions.{trailed_one, reach_last}
use Rattle.py_frames.proofs.StoreLaws.{reached_last, reached_more}
use Rattle.py_frames.proofs.CallLaws.{same_goes}
use Rattle.py_frames.proofs.CallGoes.{waited}
use Rattle.py_calls.proofs.trail_store.reach_along.Goals as goal

pub returns-in-Ok-push-clause-moves : goal.returns-in-Ok-push-clause-moves
returns-in-Ok-push-clause-moves c = reached_more c.args.functions.now c.args.frozen.now c.trailed_one.result c.args.going.now c.trailed_one.new.going c.args.budget c.args.at c.in-Ok.next c.args.node.now c.in-Ok-share.more (trailer_of c.in-Some.trailer.now) _ c.args.over c.in-Some.ensures c.in-Ok.ensures c.in-Some-trailer_at.ensures c.in-Ok-share.ensures (waited c.args.functions.now c.args.frozen.now c.trailed_one.result c.args.going.now c.trailed_one.new.going c.args.budget _ _ (λ k. trailed_one k Plain (place_of (tree c.args.node.now)) (trailer_of c.in-Some.trailer.now) c.args.over) c.in-Ok-push.ensures c.trailed_one.ensures.moves refl)

pub returns-in_default-trailer_at-clause-moves : goal.returns-in_default-trailer_at-clause-moves
returns-in_default-trailer_at-clause-moves c = reached_last c.args.functions.now c.args.frozen.now c.reach_last.result c.args.going.now c.reach_last.new.going c.args.budget c.args.at c.in-Ok.next c.args.node.now (trailer_of c.in-Some.trailer.now) c.args.over c.in-Some.ensures c.in-Ok.ensures c.in_default-trailer_at.ensures (same_goes c.args.functions.now c.args.frozen.now c.reach_last.result c.args.going.now c.reach_last.new.going c.args.budget (λ z k. reach_last k z (trailer_of c.in-Some.trailer.now)) c.place_at-place.result (place_of (tree c.args.node.now)) c.place_at-place.ensures c.reach_last.ensures.moves)
