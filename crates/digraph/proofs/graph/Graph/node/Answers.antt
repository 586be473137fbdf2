use Rattle.std.proofs.Common.{◌≡◌, [], ◌∷◌, ◌++◌, sym, subst}
use Rattle.digraph.specs.Links.{IsLinked}
use Rattle.digraph.proofs.GraphNodes.{linked_node}
use Rattle.digraph.proofs.graph.Graph.node.Goals as goal

pub invariant_of-self-2 : goal.invariant_of-self-2
invariant_of-self-2 c =
    let items : c.push.new.self.items ≡ c.self.inside.lasts.items ++ 0 ∷ [] = c.in_ok-push.ensures.items in
    subst (λ ns. IsLinked ns c.self.inside.links.items) (sym items) (linked_node c.self.inside.lasts.items c.self.inside.links.items c.self.invariant)
