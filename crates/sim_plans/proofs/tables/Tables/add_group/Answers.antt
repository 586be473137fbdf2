use Rattle.std.proofs.Common.{◌++◌, length, sym, subst, arith}
use Rattle.design_ir.proofs.Equations.{place_below}
use Rattle.sim_plans.specs.Driven.{numbers_of}
use Rattle.sim_plans.specs.Tables.{ArePartial, IsAdded}
use Rattle.sim_plans.proofs.PlanTables.{on_ok, if_ok, partial_none, partial_turn}
use Rattle.sim_plans.proofs.tables.Tables.add_group.Goals as goal

pub returns-then-group-eq0-clause-tables : goal.returns-then-group-eq0-clause-tables
returns-then-group-eq0-clause-tables c = λ gone was other.
    let t = c.args.self.now in
    partial_none c.args.design.now c.args.k c.args.p.now gone c.args.group.now t.tasks t.readers.items t.processes.items c.if-group-eq0.true was

pub overflow_cast-k : goal.overflow_cast-k
overflow_cast-k c =
    let inside = place_below c.args.design.now.processes c.args.k c.args.p.now c.requires.there in
    omega (arith, inside, c.processes.ensures.rules.few_processes)

pub compile-requires-clause-inside : goal.compile-requires-clause-inside
compile-requires-clause-inside c = c.requires.apart.inside

pub returns-clause-marks : goal.returns-clause-marks
returns-clause-marks c = if_ok c.push.result (record { aims = c.in_ok-compiled.ensures.aims; values = c.in_ok-compiled.ensures.values })

pub returns-clause-tables : goal.returns-clause-tables
returns-clause-tables c =
    let d = c.args.design.now in
    let t = c.args.self.now in
    let x = c.in_ok-compiled.compiled in
    let reads = c.as_slice-reads.result.now in
    let readers = c.add_reader.new.lists.items in
    let processes = c.add_reader-2.new.lists.items in
    let added = subst (λ rs. IsAdded (numbers_of rs) (length t.tasks) t.readers.items readers) c.as_slice-reads.ensures (subst (λ n. IsAdded (numbers_of reads) n t.readers.items readers) c.len.ensures c.in_ok-add_reader.ensures) in
    let added' = subst (λ rs. IsAdded (numbers_of rs) c.args.k t.processes.items processes) c.as_slice-reads.ensures c.in_ok-add_reader-2.ensures in
    on_ok c.push.result (λ grown gone was other.
    subst (λ list. ArePartial d c.args.k c.args.p.now (gone ++ c.args.group.now) list readers processes) (sym grown)
    (partial_turn d c.processes.ensures.rules c.args.k c.args.p.now c.requires.there c.requires.comb gone c.args.group.now t.tasks t.readers.items t.processes.items was other c.requires.apart x c.in_ok-compiled.ensures.compiled readers processes added added'))
    c.push.ensures.ok
