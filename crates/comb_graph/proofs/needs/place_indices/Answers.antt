use Rattle.std.proofs.Common.{◌∙◌, sym, subst}
use Rattle.design_ir.specs.Named.{named, AllBelow}
use Rattle.design_ir.specs.Needed.{needed_indices}
use Rattle.design_ir.proofs.Equations.{standing}
use Rattle.comb_graph.specs.Meanings.{MeanAll}
use Rattle.comb_graph.specs.Places.{HasNode, bit_nodes}
use Rattle.comb_graph.proofs.GraphSteps.{inside_all, node_more, index_leads}
use Rattle.comb_graph.proofs.needs.place_indices.Goals as goal

pub index_targets-requires-clause-names : goal.index_targets-requires-clause-names
index_targets-requires-clause-names c =
    subst (λ n. AllBelow n (named c.at.result.now)) c.requires.next (standing c.args.design.now.pool c.args.e.0 c.at.result.now c.requires.rules c.at.ensures).names

pub join-requires : goal.join-requires
join-requires c =
    let g = c.args.graph.now in
    let pool = c.args.design.now.pool in
    let m = index_leads pool c.requires.rules c.args.e.0 c.at.result.now c.at.ensures g c.args.firsts.now c.requires.places c.requires.next in
    let m' = subst (λ ns. MeanAll g (bit_nodes pool) ns (needed_indices pool c.args.e.0)) (sym (c.as_slice.ensures ∙ c.in_ok-targets.ensures)) m in
    inside_all g (bit_nodes pool) c.as_slice.result.now (needed_indices pool c.args.e.0) m'

pub returns : goal.returns
returns c =
    let g = c.args.graph.now in
    let pool = c.args.design.now.pool in
    let bits = needed_indices pool c.args.e.0 in
    let m = index_leads pool c.requires.rules c.args.e.0 c.at.result.now c.at.ensures g c.args.firsts.now c.requires.places c.requires.next in
    let m' = subst (λ ns. MeanAll g (bit_nodes pool) ns bits) (sym (c.as_slice.ensures ∙ c.in_ok-targets.ensures)) m in
    subst (λ h. HasNode g h pool bits) (sym (c.in_ok-join.ensures.1)) (node_more g pool c.as_slice.result.now bits c.known.ensures c.requires.places.size m')
