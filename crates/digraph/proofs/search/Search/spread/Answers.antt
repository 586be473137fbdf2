use Rattle.std.proofs.Common.{◌≡◌, ◌∙◌, ◌-◌, subst, arith}
use Rattle.digraph.specs.Searches.{IsSpreading}
use Rattle.digraph.proofs.WalkLaws.{leads_at}
use Rattle.digraph.proofs.SearchLaws.{search_more, spreading_more, spread_ends}
use Rattle.digraph.proofs.search.Search.spread.Goals as goal

pub loop-rest-smaller : goal.loop-rest-smaller
loop-rest-smaller c = (c.next-next.ensures.next c.args.from c.loop-rest.invariant.spreading.is_rest).less

pub loop-rest-preserved : goal.loop-rest-preserved
loop-rest-preserved c =
    let g = c.args.graph.now in
    let old = c.loop-rest.self in
    let s = c.reach.new.self in
    let from = c.args.from in
    let upto = c.next-next.result.upto in
    let rest = c.loop-rest.rest in
    let next = c.next-next.ensures.next from c.loop-rest.invariant.spreading.is_rest in
    let reached = c.in_ok-reach.ensures in
    record {
      root = reached.root ∙ c.loop-rest.invariant.root;
      search = search_more g old s from upto c.loop-rest.invariant.search (leads_at g (rest - 1) from upto next.at) c.next-next.ensures.node reached;
      spreading = spreading_more g old s from rest upto c.next-next.result.others c.loop-rest.invariant.spreading next reached;
      turns = omega (arith, reached.left, c.loop-rest.invariant.turns);
    }

pub returns : goal.returns
returns c =
    let g = c.args.graph.now in
    let s = c.loop-rest.self in
    let none : c.loop-rest.rest ≡ 0 = omega arith in
    record {
      root = c.loop-rest.invariant.root;
      search = spread_ends g s c.args.from c.loop-rest.invariant.search (subst (λ r. IsSpreading g s.reached c.args.from r) none c.loop-rest.invariant.spreading);
      left = c.loop-rest.invariant.turns;
    }
