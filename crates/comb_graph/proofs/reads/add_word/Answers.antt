use Rattle.std.proofs.Common.{◌≡◌, ◌∙◌, ◌+◌, ◌*◌, ◌<◌, [], ◌∷◌, sym, subst, ap, arith, length}
use Rattle.std.specs.List.{All}
use Rattle.design_ir.specs.Needed.{needed_whole}
use Rattle.design_ir.specs.Values.{form, signal_form}
use Rattle.digraph.specs.Graphs.{leading}
use Rattle.comb_graph.specs.Places.{bit_nodes, first_of, whole_at}
use Rattle.comb_graph.specs.Rules.{Adds, word_rules}
use Rattle.comb_graph.proofs.GraphBlocks.{adds_none}
use Rattle.comb_graph.proofs.GraphMeanings.{mean-one}
use Rattle.comb_graph.proofs.GraphPlaces.{whole}
use Rattle.comb_graph.proofs.GraphSteps.{signals_fit, inside_all}
use Rattle.comb_graph.proofs.GraphTables.{places_more}
use Rattle.comb_graph.proofs.ReadLaws.{word_more}
use Rattle.comb_graph.proofs.reads.add_word.Goals as goal

pub loop-bit-init : goal.loop-bit-init
loop-bit-init c = adds_none c.args.graph.now c.args.design.now.pool

pub lead-requires-clause-from : goal.lead-requires-clause-from
lead-requires-clause-from c =
    let pool = c.args.design.now.pool in
    let below = signals_fit pool.signals c.requires.rules.shapes c.args.word.0 c.loop-bit.bit c.requires.word (omega (arith, c.loop-bit-test.true, c.width-bit-end.ensures)) in
    omega (arith, below, c.requires.places.size, c.loop-bit.invariant.extends.size)

pub lead-requires-clause-targets : goal.lead-requires-clause-targets
lead-requires-clause-targets c =
    let g = c.args.graph.now in
    let h = c.loop-bit.graph in
    let pool = c.args.design.now.pool in
    let firsts = c.args.firsts.now in
    let address = c.args.address in
    let p = places_more g h pool firsts c.known.ensures c.loop-bit.invariant.extends c.requires.places in
    let mean = mean-one h (bit_nodes pool) (whole_at (form pool) (first_of firsts) address) (needed_whole pool address) (whole h (bit_nodes pool) pool (first_of firsts) (length firsts) p.placed address c.requires.address) in
    subst (λ n. All (λ t. t < h.size) (n ∷ [])) (sym c.whole-node.ensures.value) (inside_all h (bit_nodes pool) (whole_at (form pool) (first_of firsts) address ∷ []) (needed_whole pool address) mean)

pub loop-bit-preserved : goal.loop-bit-preserved
loop-bit-preserved c =
    let g = c.args.graph.now in
    let h = c.loop-bit.graph in
    let pool = c.args.design.now.pool in
    let firsts = c.args.firsts.now in
    let sig = c.args.word.0 in
    let i = c.loop-bit.bit in
    let below = (signals_fit pool.signals c.requires.rules.shapes sig i c.requires.word (omega (arith, c.loop-bit-test.true, c.width-bit-end.ensures))).0 in
    let p = places_more g h pool firsts c.known.ensures c.loop-bit.invariant.extends c.requires.places in
    let more = word_more g h pool firsts sig c.args.address i c.known-in-loop-bit.ensures p c.requires.address below c.loop-bit.invariant in
    let after = c.in_ok-lead.ensures ∙ ap (λ n. leading h (128 * sig + i) (n ∷ [])) c.whole-node.ensures.value in
    subst (λ j. Adds g j pool (word_rules pool sig c.args.address (i + 1))) (sym after) more

pub returns : goal.returns
returns c =
    let pool = c.args.design.now.pool in
    let end : c.loop-bit.bit ≡ (signal_form pool.signals c.args.word.0).width = omega (arith, c.loop-bit-test.false, c.loop-bit.auto.bit-end, c.width-bit-end.ensures) in
    subst (λ n. Adds c.args.graph.now c.loop-bit.graph pool (word_rules pool c.args.word.0 c.args.address n)) end c.loop-bit.invariant
