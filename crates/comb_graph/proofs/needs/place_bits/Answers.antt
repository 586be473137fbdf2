use Rattle.std.proofs.Common.{◌≡◌, ◌∙◌, ◌+◌, ◌<◌, sym, subst, ap}
use Rattle.shape_rules.specs.Forms.{Form}
use Rattle.design_ir.specs.Named.{named, AllBelow}
use Rattle.design_ir.specs.Values.{form}
use Rattle.design_ir.specs.Needed.{bits_step, needed}
use Rattle.design_ir.proofs.Equations.{standing}
use Rattle.digraph.specs.Graphs.{joined}
use Rattle.comb_graph.specs.Meanings.{MeanAll}
use Rattle.comb_graph.specs.Places.{HasBits, bit_nodes, bit_targets, first_of}
use Rattle.comb_graph.proofs.GraphSteps.{inside_all, bit_leads, bits_more}
use Rattle.comb_graph.proofs.needs.place_bits.Goals as goal

pub bit_targets-requires-clause-names : goal.bit_targets-requires-clause-names
bit_targets-requires-clause-names c =
    subst (λ n. AllBelow n (named c.at-expr.result.now)) c.requires.next (standing c.args.design.now.pool c.args.e.0 c.at-expr.result.now c.requires.rules c.at-expr.ensures).names

pub join-requires : goal.join-requires
join-requires c =
    let g = c.args.graph.now in
    let h = c.loop-k.graph in
    let pool = c.args.design.now.pool in
    let e = c.args.e.0 in
    let x = c.at-expr.result.now in
    let k = c.loop-k.k in
    let width = ap (λ (f : Form). f.width) (c.shape-2.view_is ∙ c.shape.ensures) in
    let inside : k < (form pool e).width = subst (λ n. k < n) width c.loop-k-test.true in
    let bits = bits_step (form pool) (needed pool) x k in
    let m = bit_leads pool c.requires.rules e x c.at-expr.ensures g h c.args.firsts.now k c.requires.places c.requires.next c.known.ensures c.loop-k.invariant inside in
    let m' = subst (λ ns. MeanAll h (bit_nodes pool) ns bits) (sym (c.as_slice.ensures ∙ c.in_ok-targets.ensures)) m in
    inside_all h (bit_nodes pool) c.as_slice.result.now bits m'

pub loop-k-preserved : goal.loop-k-preserved
loop-k-preserved c =
    let g = c.args.graph.now in
    let h = c.loop-k.graph in
    let pool = c.args.design.now.pool in
    let e = c.args.e.0 in
    let x = c.at-expr.result.now in
    let k = c.loop-k.k in
    let width = ap (λ (f : Form). f.width) (c.shape-2.view_is ∙ c.shape.ensures) in
    let inside : k < (form pool e).width = subst (λ n. k < n) width c.loop-k-test.true in
    let more = bits_more pool c.requires.rules e x c.at-expr.ensures g h c.args.firsts.now k c.requires.places c.requires.next c.known.ensures c.known-in-loop-k.ensures c.loop-k.invariant inside in
    let targets : c.as_slice.result.now ≡ bit_targets (form pool) (first_of c.args.firsts.now) x k = c.as_slice.ensures ∙ c.in_ok-targets.ensures in
    subst (λ j. HasBits g j pool e (k + 1)) (sym (c.in_ok-join.ensures.1 ∙ ap (joined h) targets)) more
