use Rattle.std.proofs.Common.{◌∙◌, sym}
use Rattle.py_tree.specs.Seen.{tree}
use Rattle.py_frames.specs.Expr_frames.{links_of, operand_place, first_operand}
use Rattle.py_expressions.proofs.ExprChains.{join_stops, join_ends, join_goes}
use Rattle.py_expressions.proofs.expr_chain.more_joined.Goals as goal

pub returns-then-not-goes_on-clause-moves : goal.returns-then-not-goes_on-clause-moves
returns-then-not-goes_on-clause-moves c = join_ends c.args.functions.now c.args.frozen.now c.args.going.now c.args.budget c.args.n c.args.left (operand_place c.args.n (first_operand (tree c.args.node)) (links_of (tree c.args.node))) c.in-Ok-operand_place.place (links_of (tree c.args.node)) c.args.link.now.operator (tree c.args.link.now.operand) c.in-Ok-truth_of.holds c.requires c.in-Ok-operand_place.ensures c.in-Ok-truth_of.ensures (sym c.goes_on.ensures ∙ c.if-not-goes_on.true)

pub returns-in-Err-clause-moves : goal.returns-in-Err-clause-moves
returns-in-Err-clause-moves c = join_stops c.args.functions.now c.args.frozen.now c.in-Err.halt c.args.going.now c.args.budget c.args.n c.args.left (operand_place c.args.n (first_operand (tree c.args.node)) (links_of (tree c.args.node))) c.in-Ok-operand_place.place (links_of (tree c.args.node)) c.args.link.now.operator (tree c.args.link.now.operand) c.requires c.in-Ok-operand_place.ensures c.in-Err.ensures

pub returns-else-not-goes_on-clause-moves : goal.returns-else-not-goes_on-clause-moves
returns-else-not-goes_on-clause-moves c = join_goes c.args.functions.now c.args.frozen.now c.wait_for.result c.args.going.now c.wait_for.new.going c.args.budget c.args.n c.in-Ok.at c.args.left c.in-Ok-operand_place.place c.args.node c.args.link.now.operator (tree c.args.link.now.operand) c.in-Ok-truth_of.holds c.in-Ok.ensures c.requires c.in-Ok-operand_place.ensures c.in-Ok-truth_of.ensures (sym c.goes_on.ensures ∙ c.if-not-goes_on.false) c.wait_for.ensures.moves
