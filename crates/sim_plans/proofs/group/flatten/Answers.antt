use Rattle.std.proofs.Common.{◌∙◌, ◌<◌, length, arith, get_or, length-set}
use Rattle.sim_plans.proofs.Forests.{keeps_both, halved_forest, halved_keeps, flat_turn}
use Rattle.sim_plans.proofs.group.flatten.Goals as goal

pub loop-i-preserved : goal.loop-i-preserved
loop-i-preserved c =
    let v = c.loop-i.invariant in
    let ps = c.loop-i.parents in
    let i = c.loop-i.i in
    let there : i < length ps = omega (arith, c.loop-i-test.true, v.count) in
    record {
      count = length-set ps i (get_or ps (get_or ps i 0) 0) ∙ v.count;
      forest = halved_forest ps i there v.forest;
      keeps = keeps_both c.args.parents.now ps _ v.keeps (halved_keeps ps i there v.forest);
      flat = flat_turn ps i there v.forest v.flat;
    }
