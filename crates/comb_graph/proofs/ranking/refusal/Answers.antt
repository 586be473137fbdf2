use Rattle.std.proofs.Common.{◌*◌, length, subst}
use Rattle.digraph.specs.Searches.{IsLeast}
use Rattle.comb_graph.proofs.RankOrders.{of_needs}
use Rattle.comb_graph.proofs.RankEnds.{refused_of, some_of}
use Rattle.comb_graph.proofs.ranking.refusal.Goals as goal

pub unwrap-requires : goal.unwrap-requires
unwrap-requires c =
    let g = c.args.graph.now in
    let design = c.args.design.now in
    let is = of_needs g design c.requires.needs in
    let least = subst (λ n. IsLeast g (128 * n) c.in_ok-least.least) c.signals.ensures c.in_ok-least.ensures in
    some_of design g c.count.ensures.rules is c.in_ok-least.least c.args.marks.now c.requires.seen least

pub returns : goal.returns
returns c =
    let g = c.args.graph.now in
    let design = c.args.design.now in
    let is = of_needs g design c.requires.needs in
    let least = subst (λ n. IsLeast g (128 * n) c.in_ok-least.least) c.signals.ensures c.in_ok-least.ensures in
    let found = subst (IsLeast g (128 * length design.pool.signals)) c.unwrap.ensures least in
    refused_of design g c.count.ensures.rules is c.unwrap.result c.bit_at-bit.result c.in_ok-place.place found c.bit_at-bit.ensures c.in_ok-place.ensures
