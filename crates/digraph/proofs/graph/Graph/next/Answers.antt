use Rattle.std.proofs.Common.{◌≡◌, ◌∙◌, ◌<◌, ◌-◌, refl, sym, subst, ap, arith, length, map, Some, slice_get, option_map}
use Rattle.std.proofs.lemmas.List.{length-map}
use Rattle.std.proofs.lemmas.Option.{slice_get_read, slice_get-map}
use Rattle.digraph.specs.declared.graph.Edge.{Edge}
use Rattle.digraph.specs.declared.graph.Link.{Link}
use Rattle.digraph.proofs.GraphLinks.{edge_inside}
use Rattle.digraph.proofs.graph.Graph.next.Goals as goal

pub returns-clause-node : goal.returns-clause-node
returns-clause-node c =
    let f : Link → Edge = λ l. l.edge in
    let links = c.self.inside.links.items in
    let place = c.args.rest - 1 in
    let size : c.args.self.now.size ≡ length c.self.inside.lasts.items = ap (λ g. g.size) (sym c.self.view_is) in
    let long : length c.args.self.now.edges ≡ length links = ap (λ g. length g.edges) (sym c.self.view_is) ∙ length-map links f in
    let below : place < length links = omega arith in
    let at : slice_get (map f links) place ≡ Some c.index-link.result.now.edge =
    slice_get-map f links place ∙ ap (option_map f) (slice_get_read links (length links) place c.index-link.result.now refl below c.index-link.ensures) in
    subst (λ n. c.index-link.result.now.edge.upto < n) (sym size)
    (edge_inside (length c.self.inside.lasts.items) (map f links) place c.index-link.result.now.edge c.self.invariant.graph at).upto
