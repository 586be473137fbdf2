use Rattle.std.proofs.Common.{◌≡◌, ◌∙◌, ℕ, List, true, not, Some, None, length, position, slice_get, is_some, refl, sym, ap}
use Rattle.std.proofs.lemmas.Option.{get_or_from_slice_get, slice_get_read}
use Rattle.std.proofs.lemmas.List.Quantifiers.{position-Some}
use Rattle.lists.specs.Texts.{text_eq}
use Rattle.design_ir.specs.declared.domain.Domain.{Domain}
use Rattle.fragment_walks.specs.Numbers.{first_at}
use Rattle.clock_domains.proofs.PlacingLaws.{reset_found, reset_nowhere, signal_is}
use Rattle.clock_domains.proofs.placing.placed_signal.Goals as goal

pub returns-in-Some : goal.returns-in-Some
returns-in-Some c =
    let ds = c.args.domains.now in
    let name = c.in-Reset.domain in
    let k = c.in-Some.number in
    let d = c.index-domains-number.result in
    let placed : position (λ (x : Domain). text_eq x.name name) ds ≡ Some k = sym (ap (λ (n : List ℕ). position (λ (x : Domain). text_eq x.name n) ds) c.as_str.ensures) ∙ sym c.position_named.ensures ∙ c.in-Some.is in
    let at : slice_get ds k ≡ Some d = slice_get_read ds (length ds) k d refl (position-Some (λ (x : Domain). text_eq x.name name) ds k d placed).0 c.index-domains-number.is in
    let held : is_some (first_at c.args.holders.now c.args.e.0) ≡ true = c.is_none.ensures ∙ ap not c.if-is_none.false in
    ap (λ (x : Domain). x.rst) (get_or_from_slice_get ds k d d at)
    ∙ sym (signal_is ds (is_some (first_at c.args.holders.now c.args.e.0)) (slice_get c.args.pool.now.exprs c.args.e.0) name c.in-Reset.place held (c.at.ensures ∙ ap Some c.in-Reset.is) ∙ reset_found ds name k d placed at)

pub returns-in-None : goal.returns-in-None
returns-in-None c =
    let ds = c.args.domains.now in
    let name = c.in-Reset.domain in
    let nowhere : position (λ (x : Domain). text_eq x.name name) ds ≡ None = sym (ap (λ (n : List ℕ). position (λ (x : Domain). text_eq x.name n) ds) c.as_str.ensures) ∙ sym c.position_named.ensures ∙ c.in-None.is in
    let held : is_some (first_at c.args.holders.now c.args.e.0) ≡ true = c.is_none.ensures ∙ ap not c.if-is_none.false in
    sym (signal_is ds (is_some (first_at c.args.holders.now c.args.e.0)) (slice_get c.args.pool.now.exprs c.args.e.0) name c.in-Reset.place held (c.at.ensures ∙ ap Some c.in-Reset.is) ∙ reset_nowhere ds name nowhere)
