use Rattle.std.proofs.Common.{◌≡◌, ◌∙◌, ◌<◌, All, length, refl, true, false, sym, subst, arith, Some, slice_get}
use Rattle.std.proofs.lemmas.Option.{slice_get_read, get_or_from_slice_get}
use Rattle.design_ir.specs.Named.{AllBelow}
use Rattle.comb_graph.specs.CombTargets.{is_marked, own_signals, target_parts}
use Rattle.comb_graph.proofs.CombFinds.{spread_one, parts_there, own_there}
use Rattle.comb_graph.proofs.comb.spread.Goals as goal

pub mark_parts-requires-clause-parts : goal.mark_parts-requires-clause-parts
mark_parts-requires-clause-parts c =
    let pool = c.args.design.now.pool in
    subst (λ n. AllBelow n (target_parts c.at.result.now)) (sym c.requires.exprs) (parts_there pool c.requires.rules c.args.e.0 c.at.result.now c.at.ensures (length pool.exprs) c.requires.there)

pub mark_parts-requires-clause-own : goal.mark_parts-requires-clause-own
mark_parts-requires-clause-own c =
    subst (λ n. All (λ s. s < n) (own_signals c.at.result.now)) (sym c.requires.signals) (own_there c.args.design.now.pool c.requires.rules c.args.e.0 c.at.result.now c.at.ensures)

pub returns-then-index : goal.returns-then-index
returns-then-index c =
    let exprs = c.args.exprs.now.items in
    let e = c.args.e.0 in
    let inside : e < length exprs = omega (arith, c.requires.there, c.requires.exprs) in
    let at : slice_get exprs e ≡ Some c.index.result.now = slice_get_read exprs (length exprs) e c.index.result.now refl inside c.index.ensures in
    let marked : is_marked exprs e ≡ true = get_or_from_slice_get exprs e c.index.result.now false at ∙ c.if-index.true in
    spread_one c.args.design.now.pool c.requires.rules e c.at.result.now c.at.ensures exprs c.args.signals.now.items c.mark_parts.new.exprs.items c.mark_parts.new.signals.items
    c.mark_parts.ensures.parts c.mark_parts.ensures.own marked
