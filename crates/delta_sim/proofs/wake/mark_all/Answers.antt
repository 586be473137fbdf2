use Rattle.std.proofs.Common.{◌<◌, ℕ, get_or, length, subst, sym, ap, ◌∙◌, length-set, drop, ◌+◌}
use Rattle.std.specs.List.{AllByRecursion}
use Rattle.sim_plans.proofs.Taking.{mark_turn}
use Rattle.sim_plans.proofs.Turns.{all_here, any_default}
use Rattle.delta_sim.proofs.wake.mark_all.Goals as goal

pub loop-k-preserved : goal.loop-k-preserved
loop-k-preserved c =
    let list = c.args.list.now in
    let i = c.loop-k.k-index in
    let k : ℕ = get_or list i 0 in
    let is = any_default list i 0 k c.loop-k-test.true in
    let same = sym (ap length c.mark.ensures.marks ∙ length-set c.loop-k.waits.marks k _) in
    record {
      below = subst (λ n. AllByRecursion (λ j. j < n) (drop (i + 1) list)) same (all_here (λ j. j < length c.loop-k.waits.marks) list i k c.loop-k-test.true is c.loop-k.invariant.below).1;
      all = mark_turn list i k c.loop-k.waits.marks c.mark.new.self.marks _ c.loop-k-test.true is c.mark.ensures.marks c.loop-k.invariant.all;
    }
