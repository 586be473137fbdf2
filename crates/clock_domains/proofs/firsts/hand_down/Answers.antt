use Rattle.std.proofs.Common.{◌≡◌, ◌∙◌, ◌<◌, None, Some, length, slice_get, refl, ap, arith}
use Rattle.std.proofs.lemmas.Option.{slice_get_read, get_or_from_slice_get}
use Rattle.design_ir.specs.Targets.{target_signals}
use Rattle.fragment_walks.specs.Marks.{numbers, target_parts, comes_out}
use Rattle.fragment_walks.specs.Numbers.{bounded, lowered, first_at}
use Rattle.fragment_walks.specs.Reads.{own_signals}
use Rattle.fragment_walks.proofs.Lists.{all_index}
use Rattle.fragment_walks.proofs.NumberLaws.{down_no, down_yes, length_lowered}
use Rattle.fragment_walks.proofs.Outs.{own_inside, names_inside, parts_there, signals_lead}
use Rattle.clock_domains.proofs.firsts.hand_down.Goals as goal

pub lower_parts-requires-clause-targets : goal.lower_parts-requires-clause-targets
lower_parts-requires-clause-targets c = names_inside c.args.pool.now c.args.e.0 c.at.result.now (length c.args.targets.now.items) c.requires.rules c.at.ensures c.requires.targets

pub lower_parts-requires-clause-signals : goal.lower_parts-requires-clause-signals
lower_parts-requires-clause-signals c =
    all_index (λ s. s < length c.args.signals.now.items) (own_signals c.at.result.now) (own_inside c.args.pool.now c.args.e.0 c.at.result.now (length c.args.signals.now.items) c.requires.rules c.at.ensures c.requires.signals)

pub returns-in-Some-clause-targets : goal.returns-in-Some-clause-targets
returns-in-Some-clause-targets c = ap length c.lower_parts.ensures.targets ∙ length_lowered (numbers (target_parts c.at.result.now)) c.in-Some.number c.args.targets.now.items ∙ c.requires.targets

pub returns-in-Some-clause-driven : goal.returns-in-Some-clause-driven
returns-in-Some-clause-driven c i s below =
    let q = c.args.pool.now in
    let k = c.args.e.0 in
    let e = c.at.result.now in
    let n = c.in-Some.number in
    let targets = c.args.targets.now.items in
    let signals = c.args.signals.now.items in
    let inside : k < length targets = omega (arith, c.requires.there, c.requires.targets) in
    let at : slice_get targets k ≡ Some c.index.result.now = slice_get_read targets (length targets) k c.index.result.now refl inside c.index.ensures in
    let is : first_at targets k ≡ Some n = get_or_from_slice_get targets k c.index.result.now None at ∙ c.in-Some.is in
    let step = down_yes (target_signals q) i k s targets signals n (numbers (target_parts e)) (own_signals e) is inside (parts_there q k e c.requires.rules c.at.ensures)
    (own_inside q k e (length signals) c.requires.rules c.at.ensures c.requires.signals) (signals_lead q k e s c.requires.rules c.at.ensures) in
    ap (λ ms. comes_out (target_signals q) (bounded i ms) (bounded i c.lower_parts.new.signals.items) k s) c.lower_parts.ensures.targets
    ∙ ap (λ os. comes_out (target_signals q) (bounded i (lowered (numbers (target_parts e)) n targets)) (bounded i os) k s) c.lower_parts.ensures.signals ∙ step

pub returns-in_default-clause-driven : goal.returns-in_default-clause-driven
returns-in_default-clause-driven c i s below =
    let k = c.args.e.0 in
    let targets = c.args.targets.now.items in
    let inside : k < length targets = omega (arith, c.requires.there, c.requires.targets) in
    let at : slice_get targets k ≡ Some c.index.result.now = slice_get_read targets (length targets) k c.index.result.now refl inside c.index.ensures in
    down_no (target_signals c.args.pool.now) i k s targets c.args.signals.now.items (get_or_from_slice_get targets k c.index.result.now None at ∙ c.in_default.is)
