use Rattle.std.proofs.Common.{◌∙◌, ap, sym, subst, length, arith}
use Rattle.std.specs.Prelude.{◌≤◌, ◌^◌, map}
use Rattle.design_ir.specs.Circuits.{at}
use Rattle.sim_plans.specs.Plans.{IsPlan}
use Rattle.sim_plans.specs.Tasks.{AreFitting}
use Rattle.comb_graph.specs.Rankings.{bit_of}
use Rattle.delta_sim.specs.Standing.{AreNumbersOf, AreRowsOf}
use Rattle.delta_sim.proofs.Applying.{vec_whole}
use Rattle.delta_sim.proofs.Beginning.{numbers, zeros_fit, zeros_long}
use Rattle.delta_sim.proofs.ChainBounds.{longest_few}
use Rattle.delta_sim.proofs.Lives.{first_rows, started}
use Rattle.delta_sim.proofs.sim.Sim.start.Goals as goal

pub run_in_order-requires-clause-plan : goal.run_in_order-requires-clause-plan
run_in_order-requires-clause-plan c =
    let zeros = c.in_ok-spare.ensures.numbers in
    subst (λ n. IsPlan c.args.design.now n c.in_ok-plan.plan) (sym (ap length zeros ∙ zeros_long (length c.args.design.now.pool.exprs))) c.in_ok-plan.ensures

pub run_in_order-requires-clause-rows : goal.run_in_order-requires-clause-rows
run_in_order-requires-clause-rows c =
    let d = c.args.design.now in
    subst (AreRowsOf d) (sym c.as_slice-4.ensures.value) (first_rows d c.in_ok-first_rows.field-0.items c.count.ensures.rules c.processes.ensures.rules c.in_ok-first_rows.ensures)

pub run_in_order-requires-clause-env : goal.run_in_order-requires-clause-env
run_in_order-requires-clause-env c =
    let d = c.args.design.now in
    subst (AreNumbersOf d) (sym (c.in_ok-env.ensures.items ∙ c.as_slice.ensures.value)) (numbers d c.count.ensures.rules c.processes.ensures.rules c.in_ok-held.held.items c.in_ok-held.ensures)

pub run_in_order-requires-clause-numbers : goal.run_in_order-requires-clause-numbers
run_in_order-requires-clause-numbers c =
    let zeros = c.in_ok-spare.ensures.numbers in
    subst (AreFitting c.args.design.now.pool) (sym zeros) (zeros_fit c.args.design.now.pool (length c.args.design.now.pool.exprs) (omega arith))

pub run_in_order-requires-clause-next : goal.run_in_order-requires-clause-next
run_in_order-requires-clause-next c =
    let d = c.args.design.now in
    subst (AreNumbersOf d) (sym (c.deref_mut.ensures.value ∙ c.in_ok-spare.ensures.next ∙ c.as_slice-2.ensures.value)) (numbers d c.count.ensures.rules c.processes.ensures.rules c.in_ok-held.held.items c.in_ok-held.ensures)

pub first_settled-requires-clause-fresh : goal.first_settled-requires-clause-fresh
first_settled-requires-clause-fresh c =
    let d = c.args.design.now in
    let ran = c.run_in_order.ensures in
    let zeros = c.in_ok-spare.ensures.numbers in
    let held = numbers d c.count.ensures.rules c.processes.ensures.rules c.in_ok-held.held.items c.in_ok-held.ensures in
    let long = ran.next.count ∙ sym (ap length (c.deref_mut.ensures.value ∙ c.in_ok-spare.ensures.next ∙ c.as_slice-2.ensures.value) ∙ held.count) ∙ c.deref_mut.ensures.len in
    record {
      held = c.in_ok-held.ensures;
      rows = c.in_ok-first_rows.ensures;
      env = ran.env;
      same = λ i none. ran.others i none ∙ ap (λ xs. at xs i) (c.in_ok-env.ensures.items ∙ c.as_slice.ensures.value);
      longest = rw (← c.longest.ensures) at c.requires.ranked.longest;
      few_bits = subst (λ n. n ≤ 2 ^ 22) (sym c.longest.ensures) (longest_few d c.count.ensures.rules (map bit_of c.args.ranks.now.order) c.args.ranks.now.longest c.requires.ranked.order c.requires.ranked.longest);
      plan = subst (λ n. IsPlan d n c.in_ok-plan.plan) (sym (ran.count ∙ ap length zeros ∙ zeros_long (length d.pool.exprs))) c.in_ok-plan.ensures;
      numbers = ran.numbers;
      next = subst (AreNumbersOf d) (sym (vec_whole c.in_ok-spare.spare.next.len c.run_in_order.new.next c.in_ok-spare.spare.next.items long)) ran.next;
      waits = c.in_ok-spare.ensures.waits;
      then = c.in_ok-spare.ensures.then;
      woken = c.in_ok-spare.ensures.woken;
      noted = c.in_ok-spare.ensures.noted;
      changed = c.in_ok-spare.ensures.changed;
      moved = c.in_ok-spare.ensures.moved;
    }

pub returns : goal.returns
returns c =
    let d = c.args.design.now in
    let s = c.first_settled.new.sim in
    let of = c.first_settled.ensures.of_design in
    started d s of (c.first_settled.ensures.held ∙ c.in_ok-held.ensures) (c.first_settled.ensures.rows ∙ c.in_ok-first_rows.ensures) of.settled
