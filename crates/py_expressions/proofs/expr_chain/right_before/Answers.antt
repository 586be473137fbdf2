use Rattle.std.proofs.Common.{refl}
use Rattle.py_tree.specs.Seen.{tree}
use Rattle.py_frames.specs.declared.frame.ExprFrame.TheVariants as expr
use Rattle.py_frames.specs.declared.frame.Frame.TheVariants as frame
use Rattle.py_frames.specs.declared.frame.Purpose.TheVariants.{Plain}
use Rattle.py_frames.specs.Expressions.{value_of}
use Rattle.py_frames.specs.Frames.{within}
use Rattle.py_frames.proofs.CallGoes.{waited}
use Rattle.py_expressions.proofs.expr_chain.right_before.Goals as goal

pub returns-clause-moves : goal.returns-clause-moves
returns-clause-moves c = waited c.args.functions.now c.args.frozen.now c.right_operand.result c.args.going.now c.right_operand.new.going c.args.budget _ _ (within (frame.Expr (expr.Right c.args.op c.args.left c.args.place)) (λ k. value_of k Plain (tree c.args.operand.now))) c.in-Ok.ensures c.right_operand.ensures.moves refl
