use Rattle.std.proofs.Common.{◌≡◌, ◌∙◌, ℕ, subst, true, false, get_or}
use Rattle.design_ir.specs.Circuits.{State, at, is_among}
use Rattle.design_ir.specs.Settled.{delta}
use Rattle.sim_plans.specs.Plans.{outs_at}
use Rattle.sim_plans.proofs.DeltaSteps.{run_turn}
use Rattle.delta_sim.proofs.delta.run_all.Goals as goal

pub loop-i-preserved : goal.loop-i-preserved
loop-i-preserved c =
    let d = c.args.design.now in
    let plan = c.args.plan.now in
    let list = c.args.waits.now.list in
    let i = c.loop-i.i in
    let place : c.get.result ≡ get_or list i 0 = c.get.ensures in
    let gives = subst (λ x. (st : State) (s : ℕ) → st.rows ≡ c.args.rows.now → is_among (outs_at plan x) s ≡ true → at c.run.new.next s ≡ at (delta d st c.args.env.now) s) place c.run.ensures.gives in
    let keeps = subst (λ x. (s : ℕ) → is_among (outs_at plan x) s ≡ false → at c.run.new.next s ≡ at c.loop-i.next s) place c.run.ensures.keeps in
    record {
      ran = run_turn d c.args.rows.now plan list i c.args.env.now c.loop-i.next c.run.new.next gives keeps c.loop-i.invariant.ran;
      count = c.run.ensures.count ∙ c.loop-i.invariant.count;
      numbers = c.run.ensures.numbers;
      next = c.run.ensures.next_count;
      next_fits = c.run.ensures.next_fits;
    }
