use Rattle.std.proofs.Common.{arith}
use Rattle.cell_split.specs.Needs.{node_of}
use Rattle.cell_split.proofs.NeedLaws.{grows_then, links_next, links_all}
use Rattle.cell_split.proofs.needs.add_links.Goals as goal

pub loop-place-preserved : goal.loop-place-preserved
loop-place-preserved c =
    let g = c.loop-place.graph in
    let h = c.add_link.new.graph in
    record {
      grows = grows_then c.args.graph.now g h c.loop-place.invariant.grows c.in_ok-add_link.ensures.grows;
      added = links_next g h (node_of c.args.nodes.now) c.args.links.now c.loop-place.place c.get.result.now c.in_ok-add_link.ensures.grows c.loop-place.invariant.added c.get.ensures.lookup c.in_ok-add_link.ensures.link;
    }

pub returns-clause-links : goal.returns-clause-links
returns-clause-links c = links_all c.loop-place.graph (node_of c.args.nodes.now) c.args.links.now c.loop-place.place (omega (arith, c.loop-place-test.false, c.len-place-end.ensures)) c.loop-place.invariant.added
