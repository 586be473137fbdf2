use Rattle.std.proofs.Common.{ℕ, ◌*◌, ◌<◌, [], sym, subst, ap, arith}
use Rattle.std.specs.List.{Contains}
use Rattle.digraph.specs.Graphs.{Digraph, IsGraph, joined}
use Rattle.comb_graph.specs.Meanings.{Means, IsDown}
use Rattle.comb_graph.specs.Places.{HasPlaces, bit_nodes}
use Rattle.comb_graph.specs.Rules.{ObeysRules, all_rules, comb_assignments}
use Rattle.comb_graph.proofs.GraphMeanings.{mean-none, extends_joined, joined_means}
use Rattle.comb_graph.proofs.GraphTables.{places_more}
use Rattle.comb_graph.proofs.GraphRules.{obeys_more}
use Rattle.comb_graph.proofs.GraphAims.{obeys_joined}
use Rattle.comb_graph.proofs.GraphDesigns.{obeys_none}
use Rattle.comb_graph.proofs.needs.needs_graph.Goals as goal

no_targets : (g : Digraph) (t : ℕ) → Contains [] t → t < g.size
no_targets g t in' = absurd (omega (arith, in'.1))

pub add_processes-requires-clause-places : goal.add_processes-requires-clause-places
add_processes-requires-clause-places c =
    let h = c.place_all.new.graph in
    let pool = c.args.design.now.pool in
    let firsts = c.in_ok-firsts.firsts in
    subst (λ g. HasPlaces g pool firsts) (sym (c.in_ok-guard.ensures.1)) (places_more h (joined h []) pool firsts c.known.ensures (extends_joined h (bit_nodes pool) [] (no_targets h)) c.in_ok-firsts.ensures.places)

pub add_processes-requires-clause-guard : goal.add_processes-requires-clause-guard
add_processes-requires-clause-guard c =
    let h = c.place_all.new.graph in
    let count = bit_nodes c.args.design.now.pool in
    let m = joined_means h count [] [] c.known.ensures c.in_ok-firsts.ensures.places.size (mean-none h count) in
    subst (λ g. Means g count c.in_ok-guard.guard []) (sym (c.in_ok-guard.ensures.1)) (subst (λ n. Means (joined h []) count n []) (sym (c.in_ok-guard.ensures.0)) m)

pub add_memories-requires-clause-places : goal.add_memories-requires-clause-places
add_memories-requires-clause-places c =
    let h = c.place_all.new.graph in
    let pool = c.args.design.now.pool in
    let firsts = c.in_ok-firsts.firsts in
    let before = subst (λ g. HasPlaces g pool firsts) (sym (c.in_ok-guard.ensures.1)) (places_more h (joined h []) pool firsts c.known.ensures (extends_joined h (bit_nodes pool) [] (no_targets h)) c.in_ok-firsts.ensures.places) in
    places_more c.join.new.self c.add_processes.new.graph pool firsts c.known-2.ensures c.in_ok-add_processes.ensures.extends before

pub returns : goal.returns
returns c =
    let g = c.in_ok-graph.graph in
    let h = c.place_all.new.graph in
    let j = c.join.new.self in
    let pool = c.args.design.now.pool in
    let count = bit_nodes pool in
    let empty = c.in_ok-graph.ensures in
    let graph : IsGraph g = subst IsGraph (sym empty) tt in
    let begun : ObeysRules g count [] = subst (λ x. ObeysRules x count []) (sym empty) (obeys_none (128 * c.signals.result) count) in
    let placed = obeys_more g h count [] graph c.in_ok-firsts.ensures.extends c.in_ok-firsts.ensures.signals begun in
    let guarded = subst (λ x. ObeysRules x count []) (sym (c.in_ok-guard.ensures.1)) (obeys_joined h count [] [] c.known.ensures c.in_ok-firsts.ensures.places.size (no_targets h) placed) in
    let flat : IsDown g count = subst (λ x. IsDown x count) (sym empty) (λ a b past leads. absurd (omega (arith, leads.1))) in
    let grown : IsDown j count = subst (λ x. IsDown x count) (sym (c.in_ok-guard.ensures.1)) ((extends_joined h count [] (no_targets h)).down (c.in_ok-firsts.ensures.extends.down flat)) in
    let size = ap (λ (x : Digraph). x.size) (c.in_ok-guard.ensures.1) in
    let adds = c.in_ok-add_processes.ensures in
    let reads = c.in_ok-add_memories.ensures in
    record {
      size = omega (arith, c.in_ok-firsts.ensures.places.size, size, adds.extends.size, reads.extends.size);
      down = reads.extends.down (adds.extends.down grown);
      obeys = reads.rules (all_rules pool (comb_assignments c.args.design.now.processes)) (adds.rules [] guarded);
    }
