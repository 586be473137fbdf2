use Rattle.py_tree.specs.Seen.{tree}
use Rattle.py_frames.specs.declared.frame.Purpose.TheVariants.{Plain}
use Rattle.py_frames.specs.Values.{operated}
use Rattle.py_turns.proofs.AtOnceLaws.{at_once_goes}
use Rattle.py_expressions.proofs.expr_chain.right_operand.Goals as goal

pub returns-clause-moves : goal.returns-clause-moves
returns-clause-moves c = at_once_goes c.args.functions.now c.args.frozen.now c.operated.result c.args.going.now c.operated.new.going c.args.budget Plain (tree c.args.operand.now) c.in-Some.right (λ k v. operated k c.args.op c.args.left v c.args.place) c.in-Some.ensures.value c.in-Some.ensures.room c.operated.ensures.grows c.operated.ensures.moves
