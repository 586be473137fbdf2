use Rattle.std.proofs.Common.{◌+◌, ◌∙◌, ap, sym, subst}
use Rattle.std.specs.List.{range_with_len}
use Rattle.sim_plans.specs.Compiled.{IsCompiled}
use Rattle.sim_plans.specs.Tables.{AreTables}
use Rattle.sim_plans.proofs.CompiledTasks.{whole_inside, task_whole}
use Rattle.sim_plans.proofs.PlanTables.{clocked_more, on_ok, if_ok}
use Rattle.sim_plans.proofs.tables.Tables.add_clocked.Goals as goal

pub compile-requires-clause-inside : goal.compile-requires-clause-inside
compile-requires-clause-inside c = whole_inside c.args.p.now.body c.len.result c.as_slice.result.now (c.as_slice.ensures ∙ c.in_ok-all.ensures) c.len.ensures

pub returns-clause-tables : goal.returns-clause-tables
returns-clause-tables c =
    let d = c.args.design.now in
    let t = c.args.self.now in
    let p = c.args.p.now in
    let x = c.in_ok-compiled.compiled in
    let of = subst (λ is. IsCompiled d c.args.k p is x) (c.as_slice.ensures ∙ c.in_ok-all.ensures ∙ ap (range_with_len 0) c.len.ensures) c.in_ok-compiled.ensures.compiled in
    let more = clocked_more d c.processes.ensures.rules c.args.k p c.requires.there t.clocked t.tasks t.readers.items t.processes.items c.requires.earlier x.task c.requires.clocked (task_whole d c.args.k p c.requires.there x of) in
    on_ok c.push.result (λ e. subst (λ list. AreTables d (c.args.k + 1) list t.tasks t.readers.items t.processes.items) (sym e) more) c.push.ensures.ok

pub returns-clause-room : goal.returns-clause-room
returns-clause-room c = if_ok c.push.result (record { unmarked = record { aims = c.in_ok-compiled.ensures.aims; values = c.in_ok-compiled.ensures.values }; long = c.requires.room.long })
