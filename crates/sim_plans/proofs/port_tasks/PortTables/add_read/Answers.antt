use Rattle.std.proofs.Common.{◌++◌, ◌∙◌, sym, subst}
use Rattle.sim_plans.specs.Tables.{ArePorted}
use Rattle.sim_plans.proofs.PlanTables.{on_ok}
use Rattle.sim_plans.proofs.PortTables.{unclocked_one}
use Rattle.sim_plans.proofs.port_tasks.PortTables.add_read.Goals as goal

pub returns-clause-tables : goal.returns-clause-tables
returns-clause-tables c =
    let d = c.args.design.now in
    let new = c.add_port.new.self in
    on_ok c.add_port.result (λ more done old old' was.
    subst (λ ps. ArePorted d c.args.first new.tasks (done ++ ps) old old' new.readers.items new.processes.items) (sym (unclocked_one c.args.k c.args.r.now (sym c.is_some.ensures ∙ c.if-is_some.false))) (more done old old' was))
    c.add_port.ensures.tables
