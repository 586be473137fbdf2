use Rattle.std.proofs.Common.{◌≡◌, drop}
use Rattle.std.specs.Prelude.{bytes_eq}
use Rattle.std.specs.List.{list_any}
use Rattle.design_ir.specs.declared.domain.Domain.{Domain}
use Rattle.play_text.proofs.script_names.is_domain.Given as goal

abbrev pub invariant-loop-domain : goal.invariant-loop-domain
invariant-loop-domain l = list_any (λ (d : Domain). bytes_eq d.name l.name) (drop l.domain-index l.domain-items) ≡ list_any (λ (d : Domain). bytes_eq d.name l.name) l.domain-items
