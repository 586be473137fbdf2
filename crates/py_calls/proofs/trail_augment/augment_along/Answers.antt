use Rattle.std.proofs.Common.{refl}
use Rattle.py_tree.specs.Seen.{tree, trailer_of}
use Rattle.py_frames.specs.declared.frame.Purpose.TheVariants.{Plain}
use Rattle.py_frames.specs.Parts.{place_of, operator_of}
use Rattle.py_frames.specs.Expressions.{trailed_one}
use Rattle.py_calls.proofs.AugmentLaws.{augment_ends, augment_more}
use Rattle.py_frames.proofs.CallGoes.{waited}
use Rattle.py_calls.proofs.trail_augment.augment_along.Goals as goal

pub returns-in-Ok-push-clause-moves : goal.returns-in-Ok-push-clause-moves
returns-in-Ok-push-clause-moves c = augment_more c.args.functions.now c.args.frozen.now c.trailed_one.result c.args.going.now c.trailed_one.new.going c.args.budget c.args.at c.in-Ok.next c.args.target.now c.in-Ok-share.node (trailer_of c.in-Some.trailer.now) _ c.args.over c.args.stmt.now c.in-Ok-share-2.more c.args.stmt.now.place c.args.op (tree c.args.right.now) c.in-Some.ensures c.in-Ok.ensures c.in-Some-trailer_at.ensures c.requires.here c.in-Ok-share-2.ensures (waited c.args.functions.now c.args.frozen.now c.trailed_one.result c.args.going.now c.trailed_one.new.going c.args.budget _ _ (λ k. trailed_one k Plain (place_of (tree c.args.target.now)) (trailer_of c.in-Some.trailer.now) c.args.over) c.in-Ok-push.ensures c.trailed_one.ensures.moves refl)

pub returns-in_default-trailer_at-clause-moves : goal.returns-in_default-trailer_at-clause-moves
returns-in_default-trailer_at-clause-moves c = augment_ends c.args.functions.now c.args.frozen.now c.augment_last.result c.args.going.now c.augment_last.new.going c.args.budget c.args.at c.in-Ok.next c.args.target.now (trailer_of c.in-Some.trailer.now) c.args.over c.args.stmt.now.place (operator_of c.args.op) (tree c.args.right.now) c.in-Some.ensures c.in-Ok.ensures c.in_default-trailer_at.ensures c.augment_last.ensures.moves
