use Rattle.py_tree.specs.Seen.{tree}
use Rattle.py_frames.specs.declared.frame.Purpose.TheVariants.{Plain}
use Rattle.py_frames.specs.Values.{indexed}
use Rattle.py_turns.proofs.AtOnceLaws.{at_once_goes}
use Rattle.py_calls.proofs.trail.index_begun.Goals as goal

pub returns-clause-moves : goal.returns-clause-moves
returns-clause-moves c = at_once_goes c.args.functions.now c.args.frozen.now c.indexed.result c.args.going.now c.indexed.new.going c.args.budget Plain (tree c.args.part.now) c.in-Some.index (λ k i. indexed k c.args.v i c.args.place) c.in-Some.ensures.value c.in-Some.ensures.room c.indexed.ensures.grows c.indexed.ensures.moves
