use Rattle.py_tree.specs.Seen.{tree}
use Rattle.py_frames.specs.Parts.{place_of}
use Rattle.py_frames.specs.Expr_frames.{links_of}
use Rattle.py_expressions.proofs.ExprChains.{decide_stops, decide_ends_so, decide_goes_so}
use Rattle.py_expressions.proofs.expr_chain.more_decided.Goals as goal

pub returns-then-not-holds-clause-moves : goal.returns-then-not-holds-clause-moves
returns-then-not-holds-clause-moves c = decide_ends_so c.args.functions.now c.args.frozen.now c.args.going.now c.args.budget c.args.n c.args.right c.args.gave (place_of (tree c.args.node)) c.place_of-place.result (links_of (tree c.args.node)) (c.args._link.now.operator, tree c.args._link.now.operand) c.in-Ok.holds c.requires.there c.place_of-place.ensures c.in-Ok.ensures c.if-not-holds.true

pub returns-in-Err-clause-moves : goal.returns-in-Err-clause-moves
returns-in-Err-clause-moves c = decide_stops c.args.functions.now c.args.frozen.now c.in-Err.halt c.args.going.now c.args.budget c.args.n c.args.right c.args.gave (place_of (tree c.args.node)) c.place_of-place.result (links_of (tree c.args.node)) (c.args._link.now.operator, tree c.args._link.now.operand) c.requires.there c.place_of-place.ensures c.in-Err.ensures

pub returns-else-not-holds-clause-moves : goal.returns-else-not-holds-clause-moves
returns-else-not-holds-clause-moves c = decide_goes_so c.args.functions.now c.args.frozen.now c.begun_comparison.result c.args.going.now c.begun_comparison.new.going c.args.budget c.args.n c.args.right c.args.gave (place_of (tree c.args.node)) c.place_of-place.result (links_of (tree c.args.node)) (c.args._link.now.operator, tree c.args._link.now.operand) c.in-Ok.holds c.requires.there c.place_of-place.ensures c.in-Ok.ensures c.if-not-holds.false c.begun_comparison.ensures.moves
