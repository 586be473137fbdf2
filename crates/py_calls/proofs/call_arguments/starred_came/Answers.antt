use Rattle.std.proofs.Common.{refl}
use Rattle.py_tree.specs.Seen.{tree}
use Rattle.py_frames.specs.Values.{as_row}
use Rattle.py_calls.proofs.ArgumentLaws.{starred_spreads}
use Rattle.py_frames.proofs.CallGoes.{waited}
use Rattle.py_calls.proofs.call_arguments.starred_came.Goals as goal

pub returns-in-Ok-push-clause-moves : goal.returns-in-Ok-push-clause-moves
returns-in-Ok-push-clause-moves c = starred_spreads c.args.functions.now c.args.frozen.now c.as_row.result c.args.going.now c.as_row.new.going c.args.budget c.args.node.now c.args.trailer c.args.at c.args.callee c.args.vals c.args.keywords c.args.purpose.now (tree c.args._part.now) c.in-Ok.more c.in-Ok-share_purpose.purpose c.args.v c.place_at-place.result c.place_at-place.ensures c.requires.here c.in-Ok.ensures c.in-Ok-share_purpose.ensures (waited c.args.functions.now c.args.frozen.now c.as_row.result c.args.going.now c.as_row.new.going c.args.budget _ _ (λ k. as_row k c.args.v c.place_at-place.result) c.in-Ok-push.ensures c.as_row.ensures.moves refl)
