use Rattle.std.proofs.Common.{subst, List, ℕ}
use Rattle.std.proofs.lemmas.List.{drop_all}
use Rattle.amh_tool.proofs.FollowLaws.{AreMoving, all_followed}
use Rattle.amh_tool.proofs.row_text.follow.Goals as goal

pub returns : goal.returns
returns c =
    let none = drop_all c.loop-s.s-index c.args.moved.now c.loop-s-test.false in
    all_followed c.loop-s.before.items c.args.now.now c.loop-s.invariant.count (subst (λ (rest : List ℕ). AreMoving c.loop-s.before.items c.args.now.now rest) none c.loop-s.invariant.all)
