use Rattle.std.proofs.Common.{◌<◌, arith, subst, sym, length}
use Rattle.std.specs.List.{AllByRecursion}
use Rattle.sim_plans.specs.Driven.{numbers_of}
use Rattle.delta_sim.proofs.Guessing.{given_numbers, given_others}
use Rattle.sim_plans.proofs.Jobs.{outs_below}
use Rattle.delta_sim.proofs.first.run_now.Goals as goal

pub outs-requires : goal.outs-requires
outs-requires c = omega (arith, c.requires.there, c.requires.plan.jobs)

pub give-requires-clause-below : goal.give-requires-clause-below
give-requires-clause-below c =
    let d = c.args.design.now in
    subst (λ n. AllByRecursion (λ s. s < n) (numbers_of c.outs.result.now)) (sym c.requires.env.count)
    (subst (AllByRecursion (λ s. s < length d.pool.signals)) (sym c.outs.ensures) (outs_below d c.processes.ensures.rules (length c.args.nums.now.items) c.args.plan.now c.requires.plan c.args.j))

pub returns-clause-env : goal.returns-clause-env
returns-clause-env c =
    given_numbers c.args.design.now c.run.new.next c.args.env.now.items c.give.new.env.items (numbers_of c.outs.result.now) (record { count = c.run.ensures.next_count; fits = c.run.ensures.next_fits }) c.requires.env c.give.ensures

pub returns-clause-others : goal.returns-clause-others
returns-clause-others c = λ s none.
    given_others c.args.design.now c.run.new.next c.args.env.now.items c.give.new.env.items (numbers_of c.outs.result.now) (record { count = c.run.ensures.next_count; fits = c.run.ensures.next_fits }) c.requires.env c.give.ensures
    c.processes.ensures.rules (length c.args.nums.now.items) c.args.plan.now c.requires.plan c.args.j c.outs.ensures s none
