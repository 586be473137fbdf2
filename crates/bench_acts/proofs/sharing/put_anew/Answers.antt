use Rattle.std.proofs.Common.{◌∙◌}
use Rattle.bench_acts.proofs.ShareLaws.{copied, copy_may_come, copy_turn}
use Rattle.bench_acts.proofs.sharing.put_anew.Goals as goal

pub more-requires-clause-askable : goal.more-requires-clause-askable
more-requires-clause-askable c =
    (copy_may_come c.loop-i.pool c.args.design.now.pool c.loop-i.i c.at.result.now c.in_ok-e.e c.known.ensures c.count-i-end.ensures.rules c.loop-i.invariant c.at.ensures (c.in_ok-e.ensures ∙ copied c.args.before c.at.result.now)).askable

pub more-requires-clause-accepted : goal.more-requires-clause-accepted
more-requires-clause-accepted c =
    (copy_may_come c.loop-i.pool c.args.design.now.pool c.loop-i.i c.at.result.now c.in_ok-e.e c.known.ensures c.count-i-end.ensures.rules c.loop-i.invariant c.at.ensures (c.in_ok-e.ensures ∙ copied c.args.before c.at.result.now)).shaped

pub loop-i-preserved : goal.loop-i-preserved
loop-i-preserved c =
    copy_turn c.loop-i.pool c.more.new.self c.args.design.now.pool c.loop-i.i c.at.result.now c.in_ok-e.e c.loop-i.invariant c.at.ensures (c.in_ok-e.ensures ∙ copied c.args.before c.at.result.now) c.in_ok-more.ensures.added.1
