use Rattle.std.proofs.Common.{◌≡◌, ◌∙◌, ◌≤◌, map, sym, subst, ap, arith}
use Rattle.std.specs.List.{filter}
use Rattle.digraph.specs.Depths.{is_counted, IsMost}
use Rattle.comb_graph.specs.CombNodes.{bit_at}
use Rattle.comb_graph.specs.Places.{bit_nodes}
use Rattle.comb_graph.specs.Rankings.{bit_of, IsRanking}
use Rattle.comb_graph.proofs.RankOrders.{of_needs}
use Rattle.comb_graph.proofs.RankEnds.{ranking_of, few_of}
use Rattle.comb_graph.proofs.ranking.ranks.Goals as goal

pub overflow_cast-most : goal.overflow_cast-most
overflow_cast-most c =
    let design = c.args.design.now in
    let pool = c.count.ensures.rules in
    let is = of_needs c.args.graph.now design c.requires.needs in
    let longest = subst (λ xs. IsMost c.args.graph.now xs c.in_ok-most.most) c.as_slice-3.ensures.value c.in_ok-most.ensures in
    let few : c.in_ok-most.most ≤ bit_nodes design.pool = few_of design c.args.graph.now pool is c.args.order.now c.in_ok-counted.counted.items c.in_ok-most.most c.requires.sorted c.in_ok-counted.ensures longest in
    omega (arith, few, pool.few_signals)

pub returns : goal.returns
returns c =
    let design = c.args.design.now in
    let pool = c.count.ensures.rules in
    let counted = c.in_ok-counted.counted.items in
    let is = of_needs c.args.graph.now design c.requires.needs in
    let longest = subst (λ xs. IsMost c.args.graph.now xs c.in_ok-most.most) c.as_slice-3.ensures.value c.in_ok-most.ensures in
    let bits : map bit_of c.in_ok-bits.bits ≡ map bit_at (filter (is_counted counted) c.args.order.now) =
    c.in_ok-bits.ensures ∙ ap (λ xs. map bit_at (filter (is_counted xs) c.as_slice.result.now)) c.as_slice-2.ensures.value ∙ ap (λ xs. map bit_at (filter (is_counted counted) xs)) c.as_slice.ensures in
    subst (IsRanking design) (sym c.new.ensures)
    (ranking_of design c.args.graph.now pool is c.args.order.now counted c.in_ok-bits.bits c.in_ok-most.most c.requires.sorted c.in_ok-counted.ensures bits longest)
