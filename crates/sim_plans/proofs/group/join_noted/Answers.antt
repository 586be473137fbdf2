use Rattle.std.proofs.Common.{◌<◌, ◌∙◌, ap, subst, arith, length, get_or}
use Rattle.design_ir.specs.declared.ids.SigId.{SigId}
use Rattle.design_ir.specs.Circuits.{is_among}
use Rattle.sim_plans.specs.Driven.{numbers_of}
use Rattle.sim_plans.specs.Groups.{AreJoined}
use Rattle.sim_plans.proofs.Forests.{keeps_both}
use Rattle.sim_plans.proofs.Grouping.{signal_has, join_turn, taken_all}
use Rattle.sim_plans.proofs.Turns.{any_default}
use Rattle.sim_plans.proofs.group.join_noted.Goals as goal

pub join-requires : goal.join-requires
join-requires c =
    let ss = c.args.signals.now in
    let k = c.loop-s.s-index in
    let x : SigId = get_or ss k record { 0 = 0 } in
    let at = any_default ss k record { 0 = 0 } x c.loop-s-test.true in
    let there = signal_has (λ s. get_or c.args.noted.now s 0 < length c.args.parents.now) ss k x c.loop-s-test.true at c.requires.noted in
    record {
      first = omega (arith, c.requires.there, c.loop-s.invariant.count);
      second = omega (arith, there, c.noted_at.ensures, c.loop-s.invariant.count);
      forest = c.loop-s.invariant.forest;
    }

pub loop-s-preserved : goal.loop-s-preserved
loop-s-preserved c =
    let ss = c.args.signals.now in
    let k = c.loop-s.s-index in
    let x : SigId = get_or ss k record { 0 = 0 } in
    let at = any_default ss k record { 0 = 0 } x c.loop-s-test.true in
    let v = c.loop-s.invariant in
    let joined = subst (λ n. AreJoined c.join.new.parents c.args.i n) c.noted_at.ensures c.join.ensures.joined in
    record {
      count = c.join.ensures.count ∙ v.count;
      forest = c.join.ensures.forest;
      keeps = keeps_both c.args.parents.now c.loop-s.parents c.join.new.parents v.keeps c.join.ensures.keeps;
      joined = join_turn ss k x c.args.i c.args.noted.now c.loop-s.parents c.join.new.parents c.loop-s-test.true at c.join.ensures.keeps joined v.joined;
    }

pub returns-clause-joined : goal.returns-clause-joined
returns-clause-joined c = λ s m. c.loop-s.invariant.joined s (ap (λ ss. is_among (numbers_of ss) s) (taken_all c.args.signals.now c.loop-s.s-index c.loop-s-test.false) ∙ m)
