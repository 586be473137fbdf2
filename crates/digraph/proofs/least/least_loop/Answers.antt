use Rattle.std.proofs.Common.{◌≡◌, true, false, arith, below_more}
use Rattle.digraph.specs.Graphs.{Reaches}
use Rattle.digraph.proofs.least.least_loop.Goals as goal

pub loop-node-preserved : goal.loop-node-preserved
loop-node-preserved c =
    let g = c.args.graph.now in
    below_more (λ n. Reaches g n n → ⊥) c.loop-node.node c.loop-node.invariant
    (λ loops. let yes : c.in_ok-loops.field-0 ≡ true = c.in_ok-loops.ensures.1 loops in let no' : c.in_ok-loops.field-0 ≡ false = c.if-branch.false in cc)

pub returns : goal.returns
returns c = λ n below. c.loop-node.invariant n (omega (arith, below, c.loop-node-test.false))
