use Rattle.std.specs.Prelude.{Some}
use Rattle.design_ir.specs.Pools.{Pooled}
use Rattle.flat_design.proofs.Growing.{active_more}
use Rattle.flat_design.proofs.Activities.{one_more, and_bit, and_active, and_always}
use Rattle.flat_design.proofs.activity.with_bit.Goals as goal

pub returns-in-None-clause-active : goal.returns-in-None-clause-active
returns-in-None-clause-active c = λ test other bits more h b. and_always c.args.pool.now test other bits more c.args.bit (rw c.in-None.is at h) b

pub returns-in_ok-both-in-Some-clause-one : goal.returns-in_ok-both-in-Some-clause-one
returns-in_ok-both-in-Some-clause-one c =
    let p : Pooled = c.args.pool.now in
    let q : Pooled = c.added.new.pool in
    let more = c.in_ok-both-in-Some.ensures.more in
    and_bit q c.in-Some.before c.args.bit c.in_ok-both-in-Some.both c.in_ok-both-in-Some.ensures.rules
    (one_more p q (Some c.in-Some.before) c.known.ensures more (rw c.in-Some.is at c.requires.active))
    (one_more p q (Some c.args.bit) c.known.ensures more c.requires.bit) c.in_ok-both-in-Some.ensures.added

pub returns-in_ok-both-in-Some-clause-active : goal.returns-in_ok-both-in-Some-clause-active
returns-in_ok-both-in-Some-clause-active c =
    λ test other bits needs h b. let p : Pooled = c.args.pool.now in
    let q : Pooled = c.added.new.pool in
    let more = c.in_ok-both-in-Some.ensures.more in
    and_active q test other bits needs c.in-Some.before c.args.bit c.in_ok-both-in-Some.both c.in_ok-both-in-Some.ensures.rules
    (active_more p q c.known.ensures more test bits (Some c.in-Some.before) (rw c.in-Some.is at h))
    (active_more p q c.known.ensures more other needs (Some c.args.bit) b) c.in_ok-both-in-Some.ensures.added
