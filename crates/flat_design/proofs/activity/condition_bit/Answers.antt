use Rattle.std.specs.Prelude.{if◌then◌else◌, not, Bool, List, ℤ, Some}
use Rattle.std.proofs.Common.{sym, ◌∙◌, ap}
use Rattle.shape_rules.specs.Operators.{is_zero}
use Rattle.design_ir.specs.Pools.{Pooled}
use Rattle.design_ir.specs.PoolRules.{IsPool}
use Rattle.design_ir.specs.Values.{num}
use Rattle.design_ir.specs.Targets.{Bit}
use Rattle.design_ir.specs.Needed.{needed_whole}
use Rattle.design_ir.specs.GuardedPut.{holds}
use Rattle.flat_design.specs.Growing.{IsMore}
use Rattle.flat_design.specs.Activity.{IsActiveBit}
use Rattle.flat_design.proofs.Growing.{fits_before}
use Rattle.flat_design.proofs.SourceLists.{if_ok3}
use Rattle.flat_design.proofs.Activities.{active_same, same_not}
use Rattle.flat_design.proofs.activity.condition_bit.Goals as goal

pub returns-else-taken-clause-bit : goal.returns-else-taken-clause-bit
returns-else-taken-clause-bit c =
    let p : Pooled = c.args.pool.now in
    let q : Pooled = c.truth.new.pool in
    let r : Pooled = c.negated.new.pool in
    let zero : List ℤ → Bool = λ env. is_zero (num q env c.in_ok-bit.bit.0) in
    let told : List ℤ → Bool = λ env. holds p env record { condition = c.args.condition; taken = c.args.taken } in
    let bits : List Bit = needed_whole p c.args.condition in
    if_ok3 c.negated.result (λ id. IsMore q r) (λ id. IsPool r) (IsActiveBit r zero (needed_whole q c.in_ok-bit.bit)) (IsActiveBit r told bits)
    c.negated.ensures.more c.negated.ensures.rules c.negated.ensures.bit
    (λ id more rules h.
    active_same r zero told (needed_whole q c.in_ok-bit.bit) bits (Some id)
    (λ env fit.
    same_not (zero env) (is_zero (num p env c.args.condition.0)) (c.in_ok-bit.ensures.bit.value env (fits_before q r c.in_ok-bit.ensures.rules more env fit))
    ∙ sym (ap (λ t. if t then not (is_zero (num p env c.args.condition.0)) else is_zero (num p env c.args.condition.0)) c.if-taken.false))
    c.in_ok-bit.ensures.bit.needs h)
