use Rattle.std.proofs.Common.{◌<◌, ap, subst, arith, length, take}
use Rattle.sim_plans.specs.Ports.{comb_ports}
use Rattle.sim_plans.specs.Tables.{ArePorted}
use Rattle.design_ir.proofs.NumbersFit.{element}
use Rattle.sim_plans.proofs.PortTables.{ports_next, take_whole}
use Rattle.sim_plans.proofs.port_tasks.port_tables.Goals as goal

pub loop-k-preserved : goal.loop-k-preserved
loop-k-preserved c =
    let d = c.args.design.now in
    let k = c.loop-k.k in
    let there : k < length d.memories = omega (arith, c.loop-k-test.true, c.len-k-end.ensures, ap length c.memories.ensures) in
    let m = element d.memories k there in
    let new = c.add_memory.new.self in
    record {
      marks = c.in_ok-add_memory.ensures.marks;
      tables = subst (λ done. ArePorted d c.args.first new.tasks done c.args.readers.items c.args.processes.items new.readers.items new.processes.items) (ports_next d.memories k m.0 m.1)
          (c.in_ok-add_memory.ensures.tables (comb_ports 0 (take k d.memories)) m.0 c.args.readers.items c.args.processes.items m.1 c.loop-k.invariant.tables);
    }

pub returns : goal.returns
returns c =
    let d = c.args.design.now in
    let t = c.loop-k.tables in
    subst (λ ms. ArePorted d c.args.first t.tasks (comb_ports 0 ms) c.args.readers.items c.args.processes.items t.readers.items t.processes.items)
    (take_whole d.memories c.loop-k.k (omega (arith, c.loop-k-test.false, c.len-k-end.ensures, ap length c.memories.ensures))) c.loop-k.invariant.tables
