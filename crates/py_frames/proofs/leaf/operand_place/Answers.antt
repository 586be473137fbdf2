use Rattle.std.proofs.Common.{◌-◌, arith}
use Rattle.py_tree.specs.Seen.{tree}
use Rattle.py_frames.specs.Expr_frames.{links_of, first_operand}
use Rattle.py_frames.proofs.ExprParts.{operand_place_after}
use Rattle.py_frames.proofs.leaf.operand_place.Goals as goal

pub returns-in-Part : goal.returns-in-Part
returns-in-Part c = operand_place_after c.args.n (c.args.n - 1) (first_operand (tree c.args.node.now)) c.place_of.result (links_of (tree c.args.node.now)) c.in-Part.link.operator (tree c.in-Part.link.operand) c.in-Part.ensures (omega (arith, c.if-n-eq0.false)) c.place_of.ensures
