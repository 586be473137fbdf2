use Rattle.std.proofs.Common.{◌+◌, ◌++◌, ◌∷◌, ◌∙◌, [], ap, sym, subst, refl, length}
use Rattle.sim_plans.specs.declared.task.PortTask.{PortTask}
use Rattle.sim_plans.specs.Driven.{numbers_of}
use Rattle.sim_plans.specs.Tables.{ArePorted, IsAdded}
use Rattle.sim_plans.proofs.PlanTables.{on_ok, if_ok}
use Rattle.sim_plans.proofs.PortTables.{ported_turn}
use Rattle.sim_plans.proofs.port_tasks.PortTables.add_port.Goals as goal

pub returns-clause-marks : goal.returns-clause-marks
returns-clause-marks c = if_ok c.push.result c.in_ok-address.ensures.marks

pub returns-clause-tables : goal.returns-clause-tables
returns-clause-tables c =
    let d = c.args.design.now in
    let t = c.args.self.now in
    let r = c.args.r.now in
    let first = c.args.first in
    let a = c.in_ok-address.address in
    let reads = c.as_slice-reads.result.now in
    let readers = c.add_reader.new.lists.items in
    let processes = c.add_reader-2.new.lists.items in
    let job = c.in_ok-sum.ensures ∙ ap (λ n. first + n) c.len-n.ensures in
    let agent = c.in_ok-sum-2.ensures ∙ ap (λ n. n + c.len-n.result) (c.len.ensures ∙ ap length c.processes-2.ensures.value) ∙ ap (λ n. length d.processes + n) c.len-n.ensures in
    let added = subst (λ rs. IsAdded (numbers_of rs) (first + length t.tasks) t.readers.items readers) c.as_slice-reads.ensures (subst (λ n. IsAdded (numbers_of reads) n t.readers.items readers) job c.in_ok-add_reader.ensures) in
    let added' = subst (λ rs. IsAdded (numbers_of rs) (length d.processes + length t.tasks) t.processes.items processes) c.as_slice-reads.ensures (subst (λ n. IsAdded (numbers_of reads) n t.processes.items processes) agent c.in_ok-add_reader-2.ensures) in
    let own : PortTask = record { memory = c.args.k; addr = r.addr; outs = c.in_ok-outs.outs; exprs = a.exprs } in
    on_ok c.push.result (λ grown done old old' was.
    subst (λ list. ArePorted d first list (done ++ (c.args.k, r) ∷ []) old old' readers processes) (sym grown)
    (ported_turn d first t.tasks done old old' t.readers.items t.processes.items was own (c.args.k, r) (record { memory = refl; addr = refl; outs = c.in_ok-outs.ensures; program = c.in_ok-address.ensures.program; computed = c.in_ok-address.ensures.computed })
    a.reads c.in_ok-address.ensures.reads c.in_ok-address.ensures.below readers processes added added'))
    c.push.ensures.ok
