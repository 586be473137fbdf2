use Rattle.std.proofs.Common.{◌∙◌, ◌≤◌, length, sym, subst, arith}
use Rattle.digraph.specs.Graphs.{Digraph, Leads}
use Rattle.digraph.proofs.CutLaws.{reversed_more, reversed_all}
use Rattle.digraph.proofs.cut.reversed.Goals as goal

pub loop-place-preserved : goal.loop-place-preserved
loop-place-preserved c =
    let g = c.args.graph.now in
    let more = reversed_more g c.loop-place.back c.loop-place.place c.edge-edge.result.from c.edge-edge.result.upto c.edge-edge.ensures.at c.loop-place.invariant.leads in
    record {
      size = c.add.ensures.size ∙ c.loop-place.invariant.size;
      leads = λ k a b below at. subst (λ (h : Digraph). Leads h b a) (sym c.in_ok-add.ensures.added) (more k a b below at);
    }

pub returns : goal.returns
returns c =
    let g = c.args.graph.now in
    let past : length g.edges ≤ c.loop-place.place = omega (arith, c.loop-place-test.false, c.count-place-end.ensures) in
    record { size = c.loop-place.invariant.size; leads = reversed_all g c.loop-place.back c.loop-place.place past c.loop-place.invariant.leads }
