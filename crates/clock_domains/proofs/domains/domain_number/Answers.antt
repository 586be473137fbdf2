use Rattle.std.proofs.Common.{◌∙◌, ℕ, List, Option, position, sym, ap}
use Rattle.std.specs.Prelude.{option_map}
use Rattle.lists.specs.Texts.{text_eq}
use Rattle.design_ir.specs.declared.domain.Domain.{Domain}
use Rattle.design_ir.specs.declared.ids.DomainId.{DomainId}
use Rattle.clock_domains.specs.Resolved.{domain_number}
use Rattle.clock_domains.proofs.domains.domain_number.Goals as goal

pub returns-in-None : goal.returns-in-None
returns-in-None c =
    let at : Option ℕ → Option DomainId = option_map (λ (k : ℕ). record { 0 = k }) in
    let same = ap (λ (n : List ℕ). at (position (λ (d : Domain). text_eq d.name n) c.args.domains.now)) c.as_str.ensures in
    sym (ap (domain_number c.args.domains.now) c.in-Clocked.is ∙ sym same ∙ ap at (sym c.position_named.ensures ∙ c.in-None.is))
