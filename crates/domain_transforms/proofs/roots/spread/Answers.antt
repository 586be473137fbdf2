use Rattle.std.proofs.Common.{◌≡◌, ◌∙◌, ◌<◌, length, refl, true, false, ap, arith, Some, slice_get}
use Rattle.std.proofs.lemmas.Option.{slice_get_read, get_or_from_slice_get}
use Rattle.design_ir.specs.Named.{named}
use Rattle.fragment_walks.specs.Marks.{is_marked, numbers, comes_out}
use Rattle.fragment_walks.proofs.Lists.{all_imp}
use Rattle.fragment_walks.proofs.Outs.{spread_yes, named_there, names_inside}
use Rattle.domain_transforms.specs.Renamed.{inside}
use Rattle.domain_transforms.proofs.RootLaws.{inside_lead, same_length}
use Rattle.domain_transforms.proofs.roots.spread.Goals as goal

pub mark_parts-requires : goal.mark_parts-requires
mark_parts-requires c = names_inside c.args.pool.now c.args.e.0 c.at.result.now (length c.args.marks.now.items) c.requires.rules c.at.ensures c.requires.size

pub returns-then-index-clause-size : goal.returns-then-index-clause-size
returns-then-index-clause-size c = same_length (named c.at.result.now) c.args.marks.now.items c.mark_parts.new.marks.items c.mark_parts.ensures ∙ c.requires.size

pub returns-then-index-clause-reach : goal.returns-then-index-clause-reach
returns-then-index-clause-reach c n below =
    let q = c.args.pool.now in
    let k = c.args.e.0 in
    let e = c.at.result.now in
    let marks = c.args.marks.now.items in
    let parts = numbers (named e) in
    let inside' : k < length marks = omega (arith, c.requires.there, c.requires.size) in
    let at : slice_get marks k ≡ Some c.index.result.now = slice_get_read marks (length marks) k c.index.result.now refl inside' c.index.ensures in
    let is : is_marked marks k ≡ true = get_or_from_slice_get marks k c.index.result.now false at ∙ c.if-index.true in
    let low = named_there q k e c.requires.rules c.at.ensures in
    let step = spread_yes (inside q) marks marks k n parts parts is inside' low (all_imp (λ j less. omega (arith, less, inside')) parts low) (inside_lead q k e n c.requires.rules c.at.ensures) in
    ap (λ m. comes_out (inside q) m m k n) c.mark_parts.ensures ∙ step
