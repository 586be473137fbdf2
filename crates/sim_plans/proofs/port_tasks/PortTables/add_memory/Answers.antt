use Rattle.std.proofs.Common.{◌≡◌, ◌++◌, ◌∙◌, ap, sym, subst, arith, take, slice_get, Some}
use Rattle.design_ir.specs.declared.memory.Memory.{Memory}
use Rattle.sim_plans.specs.Ports.{unclocked}
use Rattle.sim_plans.specs.Tables.{ArePorted}
use Rattle.sim_plans.proofs.PortTables.{item_get, take_whole, unclocked_next}
use Rattle.sim_plans.proofs.port_tasks.PortTables.add_memory.Goals as goal

pub loop-r-preserved : goal.loop-r-preserved
loop-r-preserved c =
    let d = c.args.design.now in
    let rs = c.as_slice-r-items.result.now in
    let i = c.loop-r.r-index in
    let new = c.add_read.new.self in
    let at = item_get rs i c.r-item.result c.loop-r-test.true c.r-item.is in
    record {
      marks = c.in_ok-add_read.ensures.marks;
      tables = λ done old old' was.
          subst (λ ps. ArePorted d c.args.first new.tasks ps old old' new.readers.items new.processes.items) (unclocked_next c.args.k rs i c.r-item.result done at)
          (c.in_ok-add_read.ensures.tables (done ++ unclocked c.args.k (take i rs)) old old' (c.loop-r.invariant.tables done old old' was));
    }

pub returns-clause-tables : goal.returns-clause-tables
returns-clause-tables c = λ done m old old' is was.
    let d = c.args.design.now in
    let rs = c.as_slice-r-items.result.now in
    let i = c.loop-r.r-index in
    let t = c.loop-r.self in
    let own = subst (λ ms. slice_get ms c.args.k ≡ Some c.get-m.result.now) c.memories.ensures c.get-m.ensures.lookup in
    let same : c.get-m.result.now ≡ m = let f : Some c.get-m.result.now ≡ Some m = sym own ∙ is in cc in
    let all = take_whole rs i (omega (arith, c.loop-r-test.false)) ∙ c.as_slice-r-items.ensures ∙ ap (λ (y : Memory). y.reads) same in
    subst (λ xs. ArePorted d c.args.first t.tasks (done ++ unclocked c.args.k xs) old old' t.readers.items t.processes.items) all (c.loop-r.invariant.tables done old old' was)
