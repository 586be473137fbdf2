use Rattle.std.proofs.Common.{◌≡◌, ◌∙◌, ◌<◌, None, Some, length, slice_get, refl, ap, arith}
use Rattle.std.proofs.lemmas.Option.{slice_get_read, get_or_from_slice_get}
use Rattle.design_ir.specs.Named.{named}
use Rattle.fragment_walks.specs.Held.{inside}
use Rattle.fragment_walks.specs.Marks.{numbers, comes_out}
use Rattle.fragment_walks.specs.Numbers.{bounded, first_at}
use Rattle.fragment_walks.proofs.Lists.{all_imp}
use Rattle.fragment_walks.proofs.HolderLaws.{inside_lead}
use Rattle.fragment_walks.proofs.NumberLaws.{down_no, down_yes, length_lowered}
use Rattle.fragment_walks.proofs.Outs.{named_there, names_inside}
use Rattle.fragment_walks.proofs.holders.hand_down.Goals as goal

pub lower_parts-requires : goal.lower_parts-requires
lower_parts-requires c = names_inside c.args.pool.now c.args.e.0 c.at.result.now (length c.args.holders.now.items) c.requires.rules c.at.ensures c.requires.size

pub returns-in-Some-clause-size : goal.returns-in-Some-clause-size
returns-in-Some-clause-size c = ap length c.lower_parts.ensures ∙ length_lowered (numbers (named c.at.result.now)) c.in-Some.number c.args.holders.now.items ∙ c.requires.size

pub returns-in-Some-clause-held : goal.returns-in-Some-clause-held
returns-in-Some-clause-held c i s below =
    let q = c.args.pool.now in
    let k = c.args.e.0 in
    let e = c.at.result.now in
    let n = c.in-Some.number in
    let firsts = c.args.holders.now.items in
    let parts = numbers (named e) in
    let there : k < length firsts = omega (arith, c.requires.there, c.requires.size) in
    let at : slice_get firsts k ≡ Some c.index.result.now = slice_get_read firsts (length firsts) k c.index.result.now refl there c.index.ensures in
    let is : first_at firsts k ≡ Some n = get_or_from_slice_get firsts k c.index.result.now None at ∙ c.in-Some.is in
    let low = named_there q k e c.requires.rules c.at.ensures in
    let step = down_yes (inside q) i k s firsts firsts n parts parts is there low (all_imp (λ j less. omega (arith, less, there)) parts low) (inside_lead q k e s c.requires.rules c.at.ensures) in
    ap (λ ms. comes_out (inside q) (bounded i ms) (bounded i ms) k s) c.lower_parts.ensures ∙ step

pub returns-in_default-clause-held : goal.returns-in_default-clause-held
returns-in_default-clause-held c i s below =
    let k = c.args.e.0 in
    let firsts = c.args.holders.now.items in
    let there : k < length firsts = omega (arith, c.requires.there, c.requires.size) in
    let at : slice_get firsts k ≡ Some c.index.result.now = slice_get_read firsts (length firsts) k c.index.result.now refl there c.index.ensures in
    down_no (inside c.args.pool.now) i k s firsts firsts (get_or_from_slice_get firsts k c.index.result.now None at ∙ c.in_default.is)
