use Rattle.std.proofs.Common.{arith}
use Rattle.py_tree.specs.Seen.{tree}
use Rattle.py_frames.specs.Parts.{place_of, links_from}
use Rattle.py_frames.specs.Expressions.{compared}
use Rattle.py_frames.specs.Expr_frames.{links_of}
use Rattle.py_frames.specs.Doing.{Known}
use Rattle.py_frames.proofs.ExprLaws.{spent_goes, spent_stops}
use Rattle.py_expressions.proofs.expr_chain.begun_comparison.Goals as goal

pub returns-in-Err-clause-moves : goal.returns-in-Err-clause-moves
returns-in-Err-clause-moves c = spent_stops c.args.functions.now c.args.frozen.now c.in-Err.halt c.args.going.now c.spend.new.going c.args.budget 1 c.args.place (λ (k : Known). compared k (place_of (tree c.args.node)) (links_from c.args.n (links_of (tree c.args.node))) c.args.left) c.in-Err.ensures

pub returns-in-Ok-clause-moves : goal.returns-in-Ok-clause-moves
returns-in-Ok-clause-moves c = spent_goes c.args.functions.now c.args.frozen.now c.next_comparison.result c.args.going.now c.spend.new.going c.next_comparison.new.going c.args.budget 1 tt c.args.place (λ (k : Known). compared k (place_of (tree c.args.node)) (links_from c.args.n (links_of (tree c.args.node))) c.args.left) c.in-Ok.ensures (omega (arith, c.next_comparison.ensures.used)) c.next_comparison.ensures.moves
