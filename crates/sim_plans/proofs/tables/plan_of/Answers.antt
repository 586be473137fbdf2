use Rattle.std.proofs.Common.{◌≡◌, ◌∙◌, ◌+◌, ap, sym, subst, ℕ, length}
use Rattle.design_ir.specs.Circuits.{is_among}
use Rattle.sim_plans.specs.Driven.{numbers_of}
use Rattle.sim_plans.specs.Marks.{is_marked}
use Rattle.sim_plans.specs.Plans.{IsTable}
use Rattle.sim_plans.specs.Ports.{comb_ports}
use Rattle.sim_plans.specs.Tables.{ArePorted}
use Rattle.sim_plans.proofs.PlanTables.{planned}
use Rattle.sim_plans.proofs.tables.plan_of.Goals as goal

pub port_tables-requires-clause-readers : goal.port_tables-requires-clause-readers
port_tables-requires-clause-readers c =
    let d = c.args.design.now in
    let t = c.in_ok-tables.tables in
    subst (λ n. IsTable (length d.pool.signals) n t.readers.items) (sym c.len-first.ensures) c.in_ok-tables.ensures.readers

pub returns : goal.returns
returns c =
    let d = c.args.design.now in
    let t = c.in_ok-tables.tables in
    let p = c.in_ok-with_ports.with_ports in
    let listed = rw c.as_slice-2.ensures.value at c.in_ok-given-2.ensures in
    let given = subst (λ list. (s : ℕ) → is_among (numbers_of list) s ≡ is_marked c.in_ok-given.given.items s) (sym c.given.view_is) listed in
    let ported = subst (λ n. ArePorted d n p.tasks (comb_ports 0 d.memories) t.readers.items t.processes.items p.readers.items p.processes.items) c.len-first.ensures c.in_ok-with_ports.ensures in
    let ported' = subst (λ readers. ArePorted d (length t.tasks) p.tasks (comb_ports 0 d.memories) t.readers.items t.processes.items readers c.in_ok-all_items-2.field-0) (sym c.in_ok-all_items.ensures)
    (subst (λ processes. ArePorted d (length t.tasks) p.tasks (comb_ports 0 d.memories) t.readers.items t.processes.items p.readers.items processes) (sym c.in_ok-all_items-2.ensures) ported) in
    planned d c.processes.ensures.rules _ c.in_ok-given.given.items t.readers.items t.processes.items c.in_ok-given.ensures given c.in_ok-tables.ensures ported'
    (c.in_ok-sum.ensures ∙ ap (λ n. n + c.len-reads.result) c.len-first.ensures ∙ ap (λ n. length t.tasks + n) c.len-reads.ensures)
    (c.in_ok-sum-2.ensures ∙ ap (λ n. n + c.len-reads.result) (c.len.ensures ∙ ap length c.processes-2.ensures.value) ∙ ap (λ n. length d.processes + n) c.len-reads.ensures) c.in_ok-all_ports.ensures c.in_ok-clearable_processes.ensures
