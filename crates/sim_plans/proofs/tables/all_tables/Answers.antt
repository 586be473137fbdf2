use Rattle.std.proofs.Common.{◌≡◌, ◌∙◌, ap, sym, subst, arith, length}
use Rattle.sim_plans.specs.Tables.{AreTables}
use Rattle.sim_plans.proofs.tables.all_tables.Goals as goal

pub returns : goal.returns
returns c =
    let d = c.args.design.now in
    let t = c.loop-k.tables in
    let long : length d.processes ≡ c.len-k-end.result = ap length (sym c.processes.ensures.value) ∙ sym c.len-k-end.ensures in
    let same : c.loop-k.k ≡ length d.processes = omega (arith, c.loop-k-test.false, c.loop-k.auto.k-end, long) in
    subst (λ n. AreTables d n t.clocked t.tasks t.readers.items t.processes.items) same c.loop-k.invariant.tables
