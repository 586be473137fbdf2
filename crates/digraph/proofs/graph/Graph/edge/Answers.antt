use Rattle.std.proofs.Common.{◌≡◌, ◌∙◌, ◌<◌, refl, sym, subst, ap, arith, length, map, Some, slice_get, option_map}
use Rattle.std.proofs.lemmas.List.{length-map}
use Rattle.std.proofs.lemmas.Option.{slice_get_read, slice_get-map}
use Rattle.digraph.specs.declared.graph.Edge.{Edge}
use Rattle.digraph.specs.declared.graph.Link.{Link}
use Rattle.digraph.specs.Graphs.{IsEdge}
use Rattle.digraph.proofs.GraphLinks.{edge_inside}
use Rattle.digraph.proofs.graph.Graph.edge.Goals as goal

pub returns-clause-inside : goal.returns-clause-inside
returns-clause-inside c =
    let f : Link → Edge = λ l. l.edge in
    let links = c.self.inside.links.items in
    let place = c.args.place in
    let edge = c.index.result.now.edge in
    let size : c.args.self.now.size ≡ length c.self.inside.lasts.items = ap (λ g. g.size) (sym c.self.view_is) in
    let long : length c.args.self.now.edges ≡ length links = ap (λ g. length g.edges) (sym c.self.view_is) ∙ length-map links f in
    let below : place < length links = omega (arith, long, c.requires) in
    let at : slice_get (map f links) place ≡ Some edge = slice_get-map f links place ∙ ap (option_map f) (slice_get_read links (length links) place c.index.result.now refl below c.index.ensures) in
    subst (λ n. IsEdge n edge) (sym size) (edge_inside (length c.self.inside.lasts.items) (map f links) place edge c.self.invariant.graph at)
