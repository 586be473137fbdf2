use Rattle.std.proofs.Common.{◌≡◌, ◌∙◌, ◌+◌, ◌<◌, sym, subst, ap, arith, length, slice_index_or, Some, slice_get}
use Rattle.std.proofs.lemmas.Option.{slice_get-get_or}
use Rattle.design_ir.specs.Values.{form}
use Rattle.design_ir.specs.Targets.{fixed_place}
use Rattle.comb_graph.specs.declared.aimed.Aimed.{Aimed}
use Rattle.comb_graph.specs.declared.aimed.At.TheVariants.{Fixed}
use Rattle.comb_graph.specs.Seen.{spot_of}
use Rattle.digraph.specs.Graphs.{leading}
use Rattle.comb_graph.specs.Meanings.{Extends}
use Rattle.comb_graph.specs.Places.{bit_nodes, first_of}
use Rattle.comb_graph.specs.Rules.{AddsAims, value_targets}
use Rattle.comb_graph.proofs.GraphMeanings.{extends_then}
use Rattle.comb_graph.proofs.GraphTables.{places_more}
use Rattle.comb_graph.proofs.GraphRules.{extends_leading}
use Rattle.comb_graph.proofs.GraphAims.{aims_more}
use Rattle.comb_graph.proofs.rules.add_aims.Goals as goal

pub loop-aim-preserved : goal.loop-aim-preserved
loop-aim-preserved c =
    let g = c.args.graph.now in
    let h = c.loop-aim.graph in
    let pool = c.args.design.now.pool in
    let firsts = c.args.firsts.now in
    let i = c.loop-aim.aim-index in
    let a : Aimed = slice_index_or c.args.aims.now i (record { node = 0; at = Fixed 0 }) in
    let at : slice_get c.args.aims.now i ≡ Some a = slice_get-get_or c.args.aims.now i (record { node = 0; at = Fixed 0 }) c.loop-aim-test.true in
    let below : a.node < bit_nodes pool = c.requires.aims i (record { node = 0; at = Fixed 0 }) c.loop-aim-test.true in
    let p = places_more g h pool firsts c.known.ensures c.loop-aim.invariant.extends c.requires.places in
    let ts = value_targets (form pool) (first_of firsts) c.args.shared c.args.value (fixed_place (spot_of a.at)) in
    let targets : c.as_slice.result.now ≡ ts = c.as_slice.ensures ∙ c.in_ok-targets.ensures ∙ ap (value_targets (form pool) (first_of firsts) c.args.shared c.args.value) c.fixed_place-source.ensures in
    let after : c.lead.new.self ≡ leading h a.node ts = c.in_ok-lead.ensures ∙ ap (leading h a.node) targets in
    record {
      extends = subst (λ j. Extends g j (bit_nodes pool)) (sym after) (extends_then g h (leading h a.node ts) (bit_nodes pool) c.loop-aim.invariant.extends (extends_leading h (bit_nodes pool) a.node ts below));
      aims = subst (λ j. AddsAims g j pool c.args.shared c.args.value c.args.aims.now (i + 1)) (sym after)
          (aims_more g h pool firsts c.args.shared c.args.value c.args.aims.now i a c.known.ensures c.known-in-loop-aim.ensures p c.requires.value at below c.loop-aim.invariant.aims);
    }

pub returns-clause-aims : goal.returns-clause-aims
returns-clause-aims c =
    let end : c.loop-aim.aim-index ≡ length c.args.aims.now = omega (arith, c.loop-aim-test.false, c.loop-aim.auto.aim-index-end) in
    subst (AddsAims c.args.graph.now c.loop-aim.graph c.args.design.now.pool c.args.shared c.args.value c.args.aims.now) end c.loop-aim.invariant.aims
