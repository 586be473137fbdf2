use Rattle.std.proofs.Common.{◌≡◌, ◌∙◌, ap, arith}
use Rattle.digraph.specs.Graphs.{Digraph}
use Rattle.cell_split.specs.Needs.{node_of}
use Rattle.cell_split.proofs.NeedLaws.{cells_grown}
use Rattle.cell_split.proofs.needs.needs.Goals as goal

pub returns : goal.returns
returns c =
    let node = node_of c.in_ok-nodes.nodes in
    let size : c.add_links.new.graph.size ≡ c.in_ok-nodes.nodes.count =
    c.in_ok-add_links.ensures.grows.size ∙ c.in_ok-add_cells.ensures.grows.size ∙ ap (λ (g : Digraph). g.size) c.in_ok-graph.ensures in
    record {
      node = node;
      size = omega (arith, size, c.in_ok-nodes.ensures);
      cells = cells_grown c.add_cells.new.graph c.add_links.new.graph node c.args.rtl.now.cells c.in_ok-add_links.ensures.grows c.in_ok-add_cells.ensures.cells;
      links = c.in_ok-add_links.ensures.links;
    }
