use Rattle.std.proofs.Common.{◌≡◌, ◌∙◌, ◌<◌, length, refl, true, false, ap, arith, Some, slice_get}
use Rattle.std.proofs.lemmas.Option.{slice_get_read, get_or_from_slice_get}
use Rattle.design_ir.specs.Targets.{target_signals}
use Rattle.fragment_walks.specs.Marks.{is_marked, marked, numbers, target_parts, own_offsets, comes_out}
use Rattle.fragment_walks.specs.Reads.{own_signals, offsets_in}
use Rattle.fragment_walks.proofs.Lists.{all_imp, all_index}
use Rattle.fragment_walks.proofs.Markings.{length_marked}
use Rattle.fragment_walks.proofs.Outs.{spread_yes, own_inside, parts_there, offsets_there, names_inside, signals_lead, offsets_lead}
use Rattle.fragment_walks.proofs.spread.spread_target.Goals as goal

pub mark_target-requires-clause-targets : goal.mark_target-requires-clause-targets
mark_target-requires-clause-targets c = names_inside c.args.pool.now c.args.e.0 c.at.result.now (length c.args.roots.now.targets.items) c.requires.rules c.at.ensures c.requires.targets

pub mark_target-requires-clause-values : goal.mark_target-requires-clause-values
mark_target-requires-clause-values c = names_inside c.args.pool.now c.args.e.0 c.at.result.now (length c.args.roots.now.values.items) c.requires.rules c.at.ensures c.requires.values

pub mark_target-requires-clause-signals : goal.mark_target-requires-clause-signals
mark_target-requires-clause-signals c =
    all_index (λ s. s < length c.args.driven.now.items) (own_signals c.at.result.now) (own_inside c.args.pool.now c.args.e.0 c.at.result.now (length c.args.driven.now.items) c.requires.rules c.at.ensures c.requires.signals)

pub returns-then-index-clause-targets : goal.returns-then-index-clause-targets
returns-then-index-clause-targets c = ap length c.mark_target.ensures.targets ∙ length_marked (numbers (target_parts c.at.result.now)) c.args.roots.now.targets.items ∙ c.requires.targets

pub returns-then-index-clause-driven : goal.returns-then-index-clause-driven
returns-then-index-clause-driven c s below =
    let q = c.args.pool.now in
    let k = c.args.e.0 in
    let e = c.at.result.now in
    let marks = c.args.roots.now.targets.items in
    let out = c.args.driven.now.items in
    let inside : k < length marks = omega (arith, c.requires.there, c.requires.targets) in
    let at : slice_get marks k ≡ Some c.index.result.now = slice_get_read marks (length marks) k c.index.result.now refl inside c.index.ensures in
    let is : is_marked marks k ≡ true = get_or_from_slice_get marks k c.index.result.now false at ∙ c.if-index.true in
    let step = spread_yes (target_signals q) marks out k s (numbers (target_parts e)) (own_signals e) is inside (parts_there q k e c.requires.rules c.at.ensures)
    (own_inside q k e (length out) c.requires.rules c.at.ensures c.requires.signals) (signals_lead q k e s c.requires.rules c.at.ensures) in
    ap (λ m. comes_out (target_signals q) m c.mark_target.new.driven.items k s) c.mark_target.ensures.targets
    ∙ ap (λ o. comes_out (target_signals q) (marked (numbers (target_parts e)) marks) o k s) c.mark_target.ensures.driven ∙ step

pub returns-then-index-clause-read : goal.returns-then-index-clause-read
returns-then-index-clause-read c s below =
    let q = c.args.pool.now in
    let k = c.args.e.0 in
    let e = c.at.result.now in
    let marks = c.args.roots.now.targets.items in
    let out = c.args.roots.now.values.items in
    let inside : k < length marks = omega (arith, c.requires.there, c.requires.targets) in
    let at : slice_get marks k ≡ Some c.index.result.now = slice_get_read marks (length marks) k c.index.result.now refl inside c.index.ensures in
    let is : is_marked marks k ≡ true = get_or_from_slice_get marks k c.index.result.now false at ∙ c.if-index.true in
    let step = spread_yes (offsets_in q) marks out k s (numbers (target_parts e)) (own_offsets e) is inside (parts_there q k e c.requires.rules c.at.ensures)
    (all_imp (λ j low. omega (arith, low, c.requires.there, c.requires.values)) (own_offsets e) (offsets_there q k e c.requires.rules c.at.ensures)) (offsets_lead q k e s c.requires.rules c.at.ensures) in
    ap (λ m. comes_out (offsets_in q) m c.mark_target.new.roots.values.items k s) c.mark_target.ensures.targets
    ∙ ap (λ o. comes_out (offsets_in q) (marked (numbers (target_parts e)) marks) o k s) c.mark_target.ensures.values ∙ step
