use Rattle.std.proofs.Common.{◌≡◌, ◌<◌, ◌∙◌, [], sym, subst, arith, length, get_or}
use Rattle.std.specs.List.{AllByRecursion}
use Rattle.sim_plans.specs.Driven.{numbers_of}
use Rattle.sim_plans.specs.Groups.{drives_of}
use Rattle.sim_plans.proofs.Grouping.{join_all_turn}
use Rattle.sim_plans.proofs.SignalsInside.{all_of}
use Rattle.sim_plans.proofs.Turns.{any_default}
use Rattle.sim_plans.proofs.group.join_all.Goals as goal

pub join_noted-requires : goal.join_noted-requires
join_noted-requires c =
    let drives = c.args.drives.now in
    let i = c.loop-i.i in
    let at : c.as_slice.result.now ≡ get_or drives i [] = c.as_slice.ensures ∙ c.index-drives-i.is ∙ any_default drives i c.index-drives-i.result [] c.loop-i-test.true in
    record {
      there = omega (arith, c.loop-i-test.true, c.loop-i.invariant.count);
      forest = c.loop-i.invariant.forest;
      noted = subst (λ n. AllByRecursion (λ s. get_or c.args.noted.now s 0 < n) (numbers_of c.as_slice.result.now)) (sym c.loop-i.invariant.count)
          (subst (λ ss. AllByRecursion (λ s. get_or c.args.noted.now s 0 < length drives) (numbers_of ss)) (sym at)
          (all_of (λ s. get_or c.args.noted.now s 0 < length drives) (drives_of drives i) (λ s m. c.requires.noted i s c.loop-i-test.true m)));
    }

pub loop-i-preserved : goal.loop-i-preserved
loop-i-preserved c =
    let drives = c.args.drives.now in
    let i = c.loop-i.i in
    let at : c.as_slice.result.now ≡ get_or drives i [] = c.as_slice.ensures ∙ c.index-drives-i.is ∙ any_default drives i c.index-drives-i.result [] c.loop-i-test.true in
    record {
      count = c.join_noted.ensures.count ∙ c.loop-i.invariant.count;
      forest = c.join_noted.ensures.forest;
      joined = join_all_turn drives i c.as_slice.result.now c.args.noted.now c.loop-i.parents c.join_noted.new.parents at c.join_noted.ensures.keeps c.join_noted.ensures.joined c.loop-i.invariant.joined;
    }

pub returns-clause-joined : goal.returns-clause-joined
returns-clause-joined c = λ i s h m. c.loop-i.invariant.joined i s (omega (arith, h, c.loop-i-test.false)) m
