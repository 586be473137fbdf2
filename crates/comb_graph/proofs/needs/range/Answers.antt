use Rattle.std.proofs.Common.{◌∙◌, sym, ap, ◌++◌, ◌∷◌, [], List, ℕ}
use Rattle.digraph.proofs.GraphLists.{range_step}
use Rattle.comb_graph.proofs.needs.range.Goals as goal

pub loop-node-preserved : goal.loop-node-preserved
loop-node-preserved c = c.in_ok-push.ensures.ok ∙ ap (λ (ns : List ℕ). ns ++ c.loop-node.node ∷ []) c.loop-node.invariant ∙ sym (range_step c.args.first c.loop-node.node c.loop-node.auto.node)
