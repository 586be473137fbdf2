use Rattle.py_tree.specs.Seen.{tree}
use Rattle.py_frames.specs.declared.frame.Purpose.TheVariants.{Plain}
use Rattle.py_frames.specs.Parts.{place_of, trailers_from}
use Rattle.py_frames.specs.Expressions.{trailed}
use Rattle.py_frames.specs.Call_frames.{trailers_of}
use Rattle.py_turns.proofs.AtOnceLaws.{at_once_goes}
use Rattle.py_calls.proofs.trail.primary_begun.Goals as goal

pub returns-clause-moves : goal.returns-clause-moves
returns-clause-moves c = at_once_goes c.args.functions.now c.args.frozen.now c.trail.result c.args.going.now c.trail.new.going c.args.budget Plain (tree c.args.first.now) c.in-Some.found (λ k v. trailed k c.args.purpose (place_of (tree c.args.node)) (trailers_from 0 (trailers_of (tree c.args.node))) v) c.in-Some.ensures.value c.in-Some.ensures.room c.trail.ensures.grows c.trail.ensures.moves
