use Rattle.std.proofs.Common.{◌≡◌, ◌<◌, ◌∙◌, sym, ap, subst, arith, get_or, length}
use Rattle.std.specs.List.{AllByRecursion}
use Rattle.sim_plans.specs.Plans.{outs_at, taken}
use Rattle.sim_plans.proofs.DeltaSteps.{kept_turn, taken_turn, once_taken}
use Rattle.delta_sim.proofs.Moving.{notes_more}
use Rattle.sim_plans.proofs.Taking.{taken_length}
use Rattle.delta_sim.proofs.Waking.{wakes_more}
use Rattle.delta_sim.proofs.delta.take_all.Goals as goal

pub loop-i-preserved : goal.loop-i-preserved
loop-i-preserved c =
    let list = c.args.waits.now.list in
    let plan = c.args.plan.now in
    let i = c.loop-i.i in
    let first = c.args.env.now.items in
    let env = c.loop-i.env.items in
    let new = c.take.new.env.items in
    let from = c.args.next.now in
    let here : i < length list = omega (arith, c.loop-i-test.true, c.len-i-end.ensures.count) in
    let place : c.get.result ≡ get_or list i 0 = c.get.ensures in
    let outs = c.outs.ensures ∙ ap (outs_at plan) place in
    let e = c.take.ensures.env ∙ ap (λ ss. taken from ss env) outs in
    let below = subst (λ n. AllByRecursion (λ s. s < n) (outs_at plan (get_or list i 0))) (sym c.loop-i.invariant.count) (c.requires.below (get_or list i 0)) in
    let once = once_taken first env new from (outs_at plan (get_or list i 0)) below e c.loop-i.invariant.once in
    record {
      count = ap length e ∙ taken_length from (outs_at plan (get_or list i 0)) env ∙ c.loop-i.invariant.count;
      once = once.0;
      kept = kept_turn plan list i from first env new here e c.loop-i.invariant.kept;
      taken = taken_turn plan list i from env new e below c.loop-i.invariant.taken;
      waits = wakes_more plan.readers first env new c.args.then.now.marks c.loop-i.then.marks c.take.new.waits.marks once.1 c.loop-i.invariant.waits c.take.ensures.waits;
      woken = wakes_more plan.processes first env new c.args.woken.now.marks c.loop-i.woken.marks c.take.new.woken.marks once.1 c.loop-i.invariant.woken c.take.ensures.woken;
      moved = notes_more first env new c.args.moved.now.marks c.loop-i.moved.marks c.take.new.moved.marks c.loop-i.invariant.moved c.take.ensures.moved;
    }
