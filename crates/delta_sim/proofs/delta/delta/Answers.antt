use Rattle.std.proofs.Common.{◌≡◌, ◌<◌, ◌∙◌, ℕ, true, false, sym, ap, subst, length, slice_index_or}
use Rattle.std.specs.List.{AllByRecursion}
use Rattle.design_ir.specs.Circuits.{at, is_among}
use Rattle.design_ir.specs.Settled.{delta}
use Rattle.comb_graph.proofs.DeltaLaws.{delta_length}
use Rattle.sim_plans.specs.Plans.{outs_at}
use Rattle.sim_plans.proofs.DeltaSteps.{delta_is}
use Rattle.sim_plans.proofs.Jobs.{outs_below}
use Rattle.delta_sim.proofs.delta.delta.Goals as goal

pub take_all-requires-clause-below : goal.take_all-requires-clause-below
take_all-requires-clause-below c = λ j.
    subst (λ n. AllByRecursion (λ s. s < n) (outs_at c.args.plan.now j)) (sym c.requires.signals) (outs_below c.args.design.now c.processes.ensures.rules (length c.args.nums.now.items) c.args.plan.now c.requires.plan j)

pub returns-clause-env : goal.returns-clause-env
returns-clause-env c = λ st fit of rests.
    let d = c.args.design.now in
    let env = c.args.env.now.items in
    let plan = c.args.plan.now in
    let marks = c.args.waits.now.marks in
    let long = delta_length d st c.count.ensures.rules c.processes.ensures.rules env in
    let ran : (j s : ℕ) → slice_index_or marks j false ≡ true → is_among (outs_at plan j) s ≡ true → at c.run_all.new.next s ≡ at (delta d st env) s =
    λ j s b o. c.run_all.ensures.ran st j s of b o ∙ ap (λ xs. at (delta d st xs) s) c.as_slice.ensures.value in
    delta_is d c.processes.ensures.rules (length c.args.nums.now.items) plan c.requires.plan st marks env c.run_all.new.next c.take_all.new.env.items c.requires.signals c.take_all.ensures.count long rests ran c.take_all.ensures.kept c.take_all.ensures.taken
