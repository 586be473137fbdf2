use Rattle.py_tree.specs.Seen.{tree}
use Rattle.py_frames.specs.declared.frame.Purpose.TheVariants.{Plain}
use Rattle.py_frames.specs.Values.{store_index}
use Rattle.py_turns.proofs.AtOnceLaws.{at_once_goes}
use Rattle.py_calls.proofs.trail_store.item_stored.Goals as goal

pub returns-clause-moves : goal.returns-clause-moves
returns-clause-moves c = at_once_goes c.args.functions.now c.args.frozen.now c.store_index.result c.args.going.now c.store_index.new.going c.args.budget Plain (tree c.args.part.now) c.in-Some.index (λ k i. store_index k c.args.over i c.args.val c.args.place) c.in-Some.ensures.value c.in-Some.ensures.room c.store_index.ensures.grows c.store_index.ensures.moves
