use Rattle.std.proofs.Common.{ap, sym, ◌∙◌}
use Rattle.std.specs.Prelude.{slice_get}
use Rattle.sim_plans.proofs.PlanTables.{no_domain}
use Rattle.sim_plans.proofs.tables.Tables.add.Goals as goal

pub add_clocked-requires-clause-there : goal.add_clocked-requires-clause-there
add_clocked-requires-clause-there c = ap (λ ps. slice_get ps c.args.k) (sym c.processes.ensures.value) ∙ c.get-p.ensures.lookup

pub add_comb-requires-clause-there : goal.add_comb-requires-clause-there
add_comb-requires-clause-there c = ap (λ ps. slice_get ps c.args.k) (sym c.processes.ensures.value) ∙ c.get-p.ensures.lookup

pub add_comb-requires-clause-comb : goal.add_comb-requires-clause-comb
add_comb-requires-clause-comb c = no_domain c.get-p.result.now.domain (sym c.is_some.ensures ∙ c.if-is_some.false)
