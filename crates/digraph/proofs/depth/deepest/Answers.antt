use Rattle.std.proofs.Common.{◌≡◌, max, sym, subst, arith}
use Rattle.digraph.specs.Depths.{IsDeepestOf, depth_at}
use Rattle.digraph.proofs.DepthLaws.{deepest_more, deepest_ends}
use Rattle.digraph.proofs.depth.deepest.Goals as goal

pub loop-rest-smaller : goal.loop-rest-smaller
loop-rest-smaller c = (c.next-next.ensures.next c.args.node c.loop-rest.invariant.deepest.is_rest).less

pub loop-rest-preserved : goal.loop-rest-preserved
loop-rest-preserved c =
    let g = c.args.graph.now in
    let depths = c.args.depths.now in
    let node = c.args.node in
    let others = c.next-next.result.others in
    let next = c.next-next.ensures.next node c.loop-rest.invariant.deepest.is_rest in
    let is : c.greater-best.result ≡ max c.loop-rest.best (depth_at depths c.next-next.result.upto) = c.greater-best.ensures in
    record { deepest = subst (IsDeepestOf g depths node others) (sym is) (deepest_more g depths node c.loop-rest.rest c.next-next.result.upto others c.loop-rest.best c.loop-rest.invariant.deepest next) }

pub returns : goal.returns
returns c =
    let g = c.args.graph.now in
    let depths = c.args.depths.now in
    let none : c.loop-rest.rest ≡ 0 = omega arith in
    deepest_ends g depths c.args.node c.loop-rest.best (subst (λ r. IsDeepestOf g depths c.args.node r c.loop-rest.best) none c.loop-rest.invariant.deepest)
