use Rattle.std.proofs.Common.{◌≡◌, ◌∙◌, ◌+◌, ◌-◌, ℕ, [], ap, arith, sym, true, false, length, slice_index_or, slice_set}
use Rattle.design_ir.specs.Circuits.{is_among}
use Rattle.design_ir.specs.Rows.{row_at}
use Rattle.sim_plans.specs.Driven.{numbers_of}
use Rattle.sim_plans.specs.Plans.{outs_at}
use Rattle.sim_plans.proofs.CombPorts.{memory_there}
use Rattle.sim_plans.proofs.DeltaSteps.{below_of}
use Rattle.sim_plans.proofs.Jobs.{outs_task, outs_port, port_of}
use Rattle.delta_sim.proofs.Resting.{run_gives, run_keeps, port_gives, port_keeps, port_next_fits}
use Rattle.delta_sim.proofs.run.run.Goals as goal

pub run_port-requires-clause-program : goal.run_port-requires-clause-program
run_port-requires-clause-program c =
    (port_of c.args.design.now c.processes.ensures.rules (length c.args.nums.now.items) c.args.plan.now c.requires.plan (c.args.j - c.len-first.result) c.get-else-j-first.result.now c.get-else-j-first.ensures.lookup).task.program

pub run_port-requires-clause-computed : goal.run_port-requires-clause-computed
run_port-requires-clause-computed c =
    (port_of c.args.design.now c.processes.ensures.rules (length c.args.nums.now.items) c.args.plan.now c.requires.plan (c.args.j - c.len-first.result) c.get-else-j-first.result.now c.get-else-j-first.ensures.lookup).task.computed

pub run_port-requires-clause-memory : goal.run_port-requires-clause-memory
run_port-requires-clause-memory c =
    let d = c.args.design.now in
    let n : ℕ = c.args.j - c.len-first.result in
    let p = port_of d c.processes.ensures.rules (length c.args.nums.now.items) c.args.plan.now c.requires.plan n c.get-else-j-first.result.now c.get-else-j-first.ensures.lookup in
    omega (arith, memory_there d c.processes.ensures.rules n p.x p.port, p.task.memory, c.requires.rows.count)

pub run_port-requires-clause-outs : goal.run_port-requires-clause-outs
run_port-requires-clause-outs c =
    ap length (port_of c.args.design.now c.processes.ensures.rules (length c.args.nums.now.items) c.args.plan.now c.requires.plan (c.args.j - c.len-first.result) c.get-else-j-first.result.now c.get-else-j-first.ensures.lookup).task.outs

pub returns-then-j-first-clause-gives : goal.returns-then-j-first-clause-gives
returns-then-j-first-clause-gives c = λ st s of out.
    let d = c.args.design.now in
    let plan = c.args.plan.now in
    let t = c.get.result.now in
    let stands = c.get.ensures.lookup in
    let out' : is_among (numbers_of t.outs) s ≡ true = ap (λ xs. is_among xs s) (sym (outs_task plan c.args.j t stands)) ∙ out in
    let task = c.requires.plan.tasks c.args.j t stands in
    run_gives d c.count.ensures.rules c.processes.ensures.rules (length c.args.nums.now.items) c.requires.numbers.few plan c.requires.plan c.args.j t stands s out' st c.args.env.now c.args.next.now c.run_task.new.next
    (below_of (length d.pool.signals) (numbers_of t.outs) s task.below out') c.requires.next (c.run_task.ensures.next task.p task.task.process)

pub returns-then-j-first-clause-keeps : goal.returns-then-j-first-clause-keeps
returns-then-j-first-clause-keeps c = λ s none.
    let d = c.args.design.now in
    let plan = c.args.plan.now in
    let t = c.get.result.now in
    let stands = c.get.ensures.lookup in
    let none' : is_among (numbers_of t.outs) s ≡ false = ap (λ xs. is_among xs s) (sym (outs_task plan c.args.j t stands)) ∙ none in
    let task = c.requires.plan.tasks c.args.j t stands in
    run_keeps d c.count.ensures.rules c.processes.ensures.rules (length c.args.nums.now.items) c.requires.numbers.few plan c.requires.plan c.args.j t stands s none' c.args.env.now c.args.next.now c.run_task.new.next (c.run_task.ensures.next task.p task.task.process)

pub returns-else-j-first-clause-gives : goal.returns-else-j-first-clause-gives
returns-else-j-first-clause-gives c = λ st s of out.
    let d = c.args.design.now in
    let plan = c.args.plan.now in
    let n : ℕ = c.args.j - c.len-first.result in
    let t = c.get-else-j-first.result.now in
    let stands = c.get-else-j-first.ensures.lookup in
    let place : length plan.tasks + n ≡ c.args.j = omega (arith, c.if-j-first.false, c.len-first.ensures) in
    let out' : is_among (numbers_of t.outs) s ≡ true = ap (λ xs. is_among xs s) (sym (outs_port plan n t stands)) ∙ ap (λ k. is_among (outs_at plan k) s) place ∙ out in
    port_gives d c.count.ensures.rules c.processes.ensures.rules (length c.args.nums.now.items) c.requires.numbers.few plan c.requires.plan n t stands s out' st c.args.env.now c.args.next.now c.run_port.new.next
    (ap length of ∙ c.requires.rows.count) c.requires.next (λ w e. c.run_port.ensures.next w e ∙ ap (λ rows. slice_set c.args.next.now w.0 (row_at d.pool c.args.env.now (slice_index_or rows t.memory []) t.addr)) (sym of))

pub returns-else-j-first-clause-keeps : goal.returns-else-j-first-clause-keeps
returns-else-j-first-clause-keeps c = λ s none.
    let d = c.args.design.now in
    let plan = c.args.plan.now in
    let n : ℕ = c.args.j - c.len-first.result in
    let t = c.get-else-j-first.result.now in
    let stands = c.get-else-j-first.ensures.lookup in
    let place : length plan.tasks + n ≡ c.args.j = omega (arith, c.if-j-first.false, c.len-first.ensures) in
    let none' : is_among (numbers_of t.outs) s ≡ false = ap (λ xs. is_among xs s) (sym (outs_port plan n t stands)) ∙ ap (λ k. is_among (outs_at plan k) s) place ∙ none in
    port_keeps d c.count.ensures.rules c.processes.ensures.rules (length c.args.nums.now.items) c.requires.numbers.few plan c.requires.plan n t stands s none' c.args.next.now c.run_port.new.next (row_at d.pool c.args.env.now (slice_index_or c.args.rows.now t.memory []) t.addr) c.run_port.ensures.next

pub returns-else-j-first-clause-next_fits : goal.returns-else-j-first-clause-next_fits
returns-else-j-first-clause-next_fits c =
    port_next_fits c.args.design.now c.count.ensures.rules c.processes.ensures.rules (length c.args.nums.now.items) c.requires.numbers.few c.args.plan.now c.requires.plan (c.args.j - c.len-first.result) c.get-else-j-first.result.now c.get-else-j-first.ensures.lookup
    c.args.env.now c.args.next.now c.run_port.new.next c.args.rows.now c.requires.rows c.requires.next_fits c.run_port.ensures.next
