use Rattle.std.proofs.Common.{ap, List}
use Rattle.py_tree.specs.Seen.{tree}
use Rattle.py_frames.specs.declared.frame.Frame.{Frame}
use Rattle.py_expressions.proofs.ExprChains.{comparing_pushed}
use Rattle.py_expressions.proofs.expr_chain.more_compared.Goals as goal

pub returns-clause-moves : goal.returns-clause-moves
returns-clause-moves c = comparing_pushed c.args.functions.now c.args.frozen.now c.related.result c.args.going.now c.related.new.going c.args.budget (record c.args.going.now { frames = c.push.new.self }) c.args.n c.args.left.now c.args.right.now c.copied-kept.result c.place_of-place.result c.args.node c.args.link.now.operator (tree c.args.link.now.operand) c.operator_of-op.result c.requires.there c.place_of-place.ensures c.operator_of-op.ensures c.copied-kept.ensures (ap (λ (z : List Frame). record c.args.going.now { frames = z }) c.in-Ok.ensures) c.related.ensures.moves
