use Rattle.std.proofs.Common.{◌≢◌, ◌<◌, ℕ, [], pos, length, subst, sym, ap, ◌∙◌, refl}
use Rattle.std.specs.List.{AllByRecursion}
use Rattle.design_ir.specs.Circuits.{at}
use Rattle.sim_plans.specs.Given.{marked}
use Rattle.delta_sim.proofs.Moving.{notes_one}
use Rattle.sim_plans.proofs.Taking.{readers_below}
use Rattle.sim_plans.proofs.Turns.{any_default}
use Rattle.delta_sim.proofs.Waking.{wakes_one}
use Rattle.delta_sim.proofs.wake.take_one.Goals as goal

pub mark_all-requires : goal.mark_all-requires
mark_all-requires c =
    let s : ℕ = c.args.s.0 in
    let table = c.args.plan.now.readers in
    let inside : s < length table = subst (λ n. s < n) (sym c.requires.tasks.count) c.requires.there in
    subst (AllByRecursion (λ k. k < length c.args.waits.now.marks)) (sym (c.as_slice.ensures ∙ c.get.ensures.item ∙ any_default table s c.get.result.now [] inside)) (readers_below (length c.args.env.now.items) (length c.args.waits.now.marks) table s c.requires.tasks)

pub mark_all-requires-2 : goal.mark_all-requires-2
mark_all-requires-2 c =
    let s : ℕ = c.args.s.0 in
    let table = c.args.plan.now.processes in
    let inside : s < length table = subst (λ n. s < n) (sym c.requires.processes.count) c.requires.there in
    subst (AllByRecursion (λ k. k < length c.args.woken.now.marks)) (sym (c.as_slice-2.ensures ∙ c.get-2.ensures.item ∙ any_default table s c.get-2.result.now [] inside)) (readers_below (length c.args.env.now.items) (length c.args.woken.now.marks) table s c.requires.processes)

pub returns-clause-waits : goal.returns-clause-waits
returns-clause-waits c =
    let s : ℕ = c.args.s.0 in
    let env = c.args.env.now.items in
    let table = c.args.plan.now.readers in
    let inside : s < length table = subst (λ n. s < n) (sym c.requires.tasks.count) c.requires.there in
    let list = c.as_slice.ensures ∙ c.get.ensures.item ∙ any_default table s c.get.result.now [] inside in
    let now = c.index.ensures ∙ any_default env s c.index.result.now (pos 0) c.requires.there in
    let other : at env s ≢ c.index-from-i.result = λ e. c.if-not-differs.ensures.other refl (now ∙ e) in
    wakes_one table (length env) (length c.args.waits.now.marks) env s c.index-from-i.result c.args.waits.now.marks c.mark_all.new.waits.marks c.requires.tasks refl c.requires.there other (c.mark_all.ensures ∙ ap (λ xs. marked xs c.args.waits.now.marks) list)

pub returns-clause-woken : goal.returns-clause-woken
returns-clause-woken c =
    let s : ℕ = c.args.s.0 in
    let env = c.args.env.now.items in
    let table = c.args.plan.now.processes in
    let inside : s < length table = subst (λ n. s < n) (sym c.requires.processes.count) c.requires.there in
    let list = c.as_slice-2.ensures ∙ c.get-2.ensures.item ∙ any_default table s c.get-2.result.now [] inside in
    let now = c.index.ensures ∙ any_default env s c.index.result.now (pos 0) c.requires.there in
    let other : at env s ≢ c.index-from-i.result = λ e. c.if-not-differs.ensures.other refl (now ∙ e) in
    wakes_one table (length env) (length c.args.woken.now.marks) env s c.index-from-i.result c.args.woken.now.marks c.mark_all-2.new.waits.marks c.requires.processes refl c.requires.there other (c.mark_all-2.ensures ∙ ap (λ xs. marked xs c.args.woken.now.marks) list)

pub mark-requires : goal.mark-requires
mark-requires c = subst (λ n. c.args.s.0 < n) (sym c.requires.moved) c.requires.there

pub returns-clause-moved : goal.returns-clause-moved
returns-clause-moved c =
    notes_one c.args.env.now.items c.args.s.0 c.index-from-i.result c.args.moved.now.marks c.mark.new.self.marks c.requires.moved c.requires.there c.mark.ensures.marks
