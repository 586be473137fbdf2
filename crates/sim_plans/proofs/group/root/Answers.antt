use Rattle.std.proofs.Common.{◌∙◌, arith, get_or, length-set}
use Rattle.sim_plans.proofs.Forests.{keeps_both, joined_keeps, up_below, halved_forest, halved_keeps, halved_joined, halved_roots}
use Rattle.sim_plans.proofs.group.root.Goals as goal

pub loop-parents-preserved : goal.loop-parents-preserved
loop-parents-preserved c =
    let v = c.loop-parents.invariant in
    let ps = c.loop-parents.parents in
    let e = c.loop-parents.e in
    let first = c.args.parents.now in
    let keeps = halved_keeps ps e v.there v.forest in
    let up = get_or ps (get_or ps e 0) 0 in
    record {
      count = length-set ps e up ∙ v.count;
      there = omega (arith, length-set ps e up, v.there, v.forest e v.there, up_below ps e v.there v.forest);
      forest = halved_forest ps e v.there v.forest;
      keeps = keeps_both first ps _ v.keeps keeps;
      roots = λ k r. halved_roots ps e v.there v.forest k (v.roots k r);
      joined = λ f r. joined_keeps ps _ c.args.i e keeps v.joined f r ∙ halved_joined ps e v.there v.forest f r;
    }
