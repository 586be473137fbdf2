use Rattle.py_tree.specs.Seen.{tree}
use Rattle.py_frames.specs.declared.frame.Purpose.TheVariants.{Plain}
use Rattle.py_frames.specs.Parts.{place_of, links_from}
use Rattle.py_frames.specs.Expressions.{linked}
use Rattle.py_frames.specs.Expr_frames.{links_of}
use Rattle.py_turns.proofs.AtOnceLaws.{at_once_goes}
use Rattle.py_expressions.proofs.expr_chain.first_operand.Goals as goal

pub returns-clause-moves : goal.returns-clause-moves
returns-clause-moves c = at_once_goes c.args.functions.now c.args.frozen.now c.next_link.result c.args.going.now c.next_link.new.going c.args.budget Plain (tree c.args.first.now) c.in-Some.left (λ k v. linked k (place_of (tree c.args.node)) (links_from 0 (links_of (tree c.args.node))) v) c.in-Some.ensures.value c.in-Some.ensures.room c.next_link.ensures.grows c.next_link.ensures.moves
