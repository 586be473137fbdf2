use Rattle.std.proofs.Common.{◌≡◌, ◌∙◌, ◌<◌, length, refl, true, false, ap, arith, Some, slice_get}
use Rattle.std.proofs.lemmas.Option.{slice_get_read, get_or_from_slice_get}
use Rattle.design_ir.specs.Named.{named}
use Rattle.fragment_walks.specs.Marks.{is_marked, marked, numbers, comes_out}
use Rattle.fragment_walks.specs.Reads.{own_signals, signals_in}
use Rattle.fragment_walks.proofs.Lists.{all_index}
use Rattle.fragment_walks.proofs.Markings.{length_marked}
use Rattle.fragment_walks.proofs.Outs.{spread_yes, own_inside, named_there, names_inside, reads_lead}
use Rattle.fragment_walks.proofs.spread.spread_value.Goals as goal

pub mark_value-requires-clause-values : goal.mark_value-requires-clause-values
mark_value-requires-clause-values c = names_inside c.args.pool.now c.args.e.0 c.at.result.now (length c.args.values.now.items) c.requires.rules c.at.ensures c.requires.values

pub mark_value-requires-clause-signals : goal.mark_value-requires-clause-signals
mark_value-requires-clause-signals c =
    all_index (λ s. s < length c.args.read.now.items) (own_signals c.at.result.now) (own_inside c.args.pool.now c.args.e.0 c.at.result.now (length c.args.read.now.items) c.requires.rules c.at.ensures c.requires.signals)

pub returns-then-index-clause-values : goal.returns-then-index-clause-values
returns-then-index-clause-values c = ap length c.mark_value.ensures.values ∙ length_marked (numbers (named c.at.result.now)) c.args.values.now.items ∙ c.requires.values

pub returns-then-index-clause-read : goal.returns-then-index-clause-read
returns-then-index-clause-read c s below =
    let q = c.args.pool.now in
    let k = c.args.e.0 in
    let e = c.at.result.now in
    let marks = c.args.values.now.items in
    let out = c.args.read.now.items in
    let inside : k < length marks = omega (arith, c.requires.there, c.requires.values) in
    let at : slice_get marks k ≡ Some c.index.result.now = slice_get_read marks (length marks) k c.index.result.now refl inside c.index.ensures in
    let is : is_marked marks k ≡ true = get_or_from_slice_get marks k c.index.result.now false at ∙ c.if-index.true in
    let step = spread_yes (signals_in q) marks out k s (numbers (named e)) (own_signals e) is inside (named_there q k e c.requires.rules c.at.ensures)
    (own_inside q k e (length out) c.requires.rules c.at.ensures c.requires.signals) (reads_lead q k e s c.requires.rules c.at.ensures) in
    ap (λ m. comes_out (signals_in q) m c.mark_value.new.read.items k s) c.mark_value.ensures.values
    ∙ ap (λ o. comes_out (signals_in q) (marked (numbers (named e)) marks) o k s) c.mark_value.ensures.read ∙ step
