use Rattle.std.proofs.Common.{◌≡◌, ◌<◌, [], length, subst, sym, ◌∙◌, get_or}
use Rattle.std.specs.List.{AllByRecursion}
use Rattle.sim_plans.specs.Driven.{numbers_of}
use Rattle.sim_plans.proofs.Grouping.{note_turn}
use Rattle.sim_plans.proofs.Turns.{any_default}
use Rattle.sim_plans.proofs.group.note_all.Goals as goal

pub note-requires : goal.note-requires
note-requires c =
    let drives = c.args.drives.now in
    let i = c.loop-i.i in
    let at : c.as_slice.result.now ≡ get_or drives i [] = c.as_slice.ensures ∙ c.index-drives-i.is ∙ any_default drives i c.index-drives-i.result [] c.loop-i-test.true in
    record {
      below = subst (λ n. AllByRecursion (λ s. s < n) (numbers_of c.as_slice.result.now)) (sym c.loop-i.invariant.count)
          (subst (λ ss. AllByRecursion (λ s. s < length c.args.noted.now) (numbers_of ss)) (sym at) (c.requires.below i c.loop-i-test.true));
    }

pub loop-i-preserved : goal.loop-i-preserved
loop-i-preserved c =
    let drives = c.args.drives.now in
    let i = c.loop-i.i in
    let at : c.as_slice.result.now ≡ get_or drives i [] = c.as_slice.ensures ∙ c.index-drives-i.is ∙ any_default drives i c.index-drives-i.result [] c.loop-i-test.true in
    record {
      count = c.note.ensures.count ∙ c.loop-i.invariant.count;
      noted = note_turn drives i c.as_slice.result.now c.loop-i.noted c.note.new.noted c.loop-i-test.true at c.note.ensures.noted c.note.ensures.either c.loop-i.invariant.noted;
    }
