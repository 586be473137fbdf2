use Rattle.std.proofs.Common.{sym, ◌∙◌, ap}
use Rattle.std.specs.Prelude.{◌==◌}
use Rattle.std.specs.List.{list_any}
use Rattle.design_ir.specs.declared.ids.DomainId.{DomainId}
use Rattle.bench_run.proofs.TickLaws.{listed_within}
use Rattle.bench_run.proofs.ticks.is_active.Goals as goal

pub is_active-requires : goal.is_active-requires
is_active-requires c = listed_within _ c.args.d.0 c.args.toggled.now c.requires.1 (sym (ap (list_any (λ (x : DomainId). x.0 == c.args.d.0)) c.as_slice.ensures) ∙ sym c.contains.ensures.value ∙ c.if-contains.true)

pub returns-then-contains-clause-there : goal.returns-then-contains-clause-there
returns-then-contains-clause-there c is = listed_within _ c.args.d.0 c.args.toggled.now c.requires.1 (sym (ap (list_any (λ (x : DomainId). x.0 == c.args.d.0)) c.as_slice.ensures) ∙ sym c.contains.ensures.value ∙ c.if-contains.true)
