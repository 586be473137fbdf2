use Rattle.design_ir.specs.Needed.{needed_whole}
use Rattle.design_ir.specs.GuardedPut.{holds}
use Rattle.flat_design.proofs.Growing.{active_more}
use Rattle.flat_design.proofs.Activities.{one_more}
use Rattle.flat_design.proofs.activity.with_condition.Goals as goal

pub with_bit-requires-clause-active : goal.with_bit-requires-clause-active
with_bit-requires-clause-active c = one_more c.args.pool.now c.condition_bit.new.pool c.args.active c.known.ensures c.in_ok-bit.ensures.more c.requires.active

pub returns-clause-active : goal.returns-clause-active
returns-clause-active c =
    λ test bits h.
    c.with_bit.ensures.active test (λ env. holds c.args.pool.now env record { condition = c.args.condition; taken = c.args.taken }) bits (needed_whole c.args.pool.now c.args.condition)
    (active_more c.args.pool.now c.condition_bit.new.pool c.known.ensures c.in_ok-bit.ensures.more test bits c.args.active h) c.in_ok-bit.ensures.bit
