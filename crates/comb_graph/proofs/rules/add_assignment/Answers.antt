use Rattle.std.proofs.Common.{ap, ◌≡◌, ◌∙◌, ◌<◌, [], ◌∷◌, map, sym, subst, arith, length}
use Rattle.std.proofs.lemmas.Option.{get_or_from_slice_get}
use Rattle.design_ir.specs.Targets.{aims}
use Rattle.design_ir.specs.Values.{form}
use Rattle.digraph.specs.Graphs.{joined}
use Rattle.comb_graph.specs.Meanings.{Extends}
use Rattle.comb_graph.specs.Places.{HasPlaces, bit_nodes, first_of, indices_at}
use Rattle.comb_graph.specs.Rules.{AddsAims}
use Rattle.comb_graph.specs.Seen.{seen}
use Rattle.comb_graph.proofs.GraphMeanings.{extends_then, extends_joined, two_inside}
use Rattle.comb_graph.proofs.GraphTables.{places_more}
use Rattle.comb_graph.proofs.GraphAims.{assignment}
use Rattle.comb_graph.proofs.rules.add_assignment.Goals as goal

pub add_aims-requires-clause-places : goal.add_aims-requires-clause-places
add_aims-requires-clause-places c =
    let g = c.args.graph.now in
    let pool = c.args.design.now.pool in
    let firsts = c.args.tables.0.now in
    let ts = c.args.guard ∷ indices_at (form pool) (first_of firsts) c.args.target ∷ [] in
    let there : c.args.target.0 < length firsts = omega (arith, c.requires.target, c.requires.count) in
    let inside = two_inside g c.args.guard (indices_at (form pool) (first_of firsts) c.args.target) c.requires.guard (c.requires.places.placed.placed c.args.target.0 there).indices.inside in
    subst (λ h. HasPlaces h pool firsts) (sym c.in_ok-shared.ensures.graph) (places_more g (joined g ts) pool firsts c.known.ensures (extends_joined g (bit_nodes pool) ts inside) c.requires.places)

pub returns-clause-extends : goal.returns-clause-extends
returns-clause-extends c =
    let g = c.args.graph.now in
    let pool = c.args.design.now.pool in
    let firsts = c.args.tables.0.now in
    let ts = c.args.guard ∷ indices_at (form pool) (first_of firsts) c.args.target ∷ [] in
    let there : c.args.target.0 < length firsts = omega (arith, c.requires.target, c.requires.count) in
    let inside = two_inside g c.args.guard (indices_at (form pool) (first_of firsts) c.args.target) c.requires.guard (c.requires.places.placed.placed c.args.target.0 there).indices.inside in
    let e = subst (λ h. Extends h c.add_aims.new.graph (bit_nodes pool)) c.in_ok-shared.ensures.graph c.in_ok-add_aims.ensures.extends in
    extends_then g (joined g ts) c.add_aims.new.graph (bit_nodes pool) (extends_joined g (bit_nodes pool) ts inside) e

pub returns-clause-rules : goal.returns-clause-rules
returns-clause-rules c =
    let g = c.args.graph.now in
    let pool = c.args.design.now.pool in
    let firsts = c.args.tables.0.now in
    let target = c.args.target in
    let row = c.as_slice.result.now in
    let ts = c.args.guard ∷ indices_at (form pool) (first_of firsts) target ∷ [] in
    let there : target.0 < length firsts = omega (arith, c.requires.target, c.requires.count) in
    let is : map seen row ≡ aims pool target.0 =
    ap (map seen) (c.as_slice.ensures ∙ sym (get_or_from_slice_get c.args.tables.1.now target.0 c.get-aims.result.now [] c.get-aims.ensures.lookup)) ∙ c.requires.aims.rows target.0 c.requires.target in
    let a = c.in_ok-add_aims.ensures.aims in
    let a' = subst (λ h. AddsAims h c.add_aims.new.graph pool c.in_ok-shared.shared c.args.value row (length row)) c.in_ok-shared.ensures.graph a in
    let a'' = subst (λ n. AddsAims (joined g ts) c.add_aims.new.graph pool n c.args.value row (length row)) c.in_ok-shared.ensures.node a' in
    assignment g c.add_aims.new.graph pool firsts c.args.guard target c.args.value row c.known.ensures c.requires.places there is a''
