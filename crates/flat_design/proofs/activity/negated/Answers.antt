use Rattle.std.specs.Prelude.{Bool, List, ℤ, Some, Contains}
use Rattle.std.proofs.Common.{ap, subst}
use Rattle.shape_rules.specs.Operators.{is_zero}
use Rattle.shape_rules.specs.declared.op.Op.TheVariants.{Not}
use Rattle.design_ir.specs.declared.expr.Expr.TheVariants.{Unary}
use Rattle.design_ir.specs.Pools.{Pooled}
use Rattle.design_ir.specs.PoolRules.{IsPool}
use Rattle.design_ir.specs.Values.{num}
use Rattle.design_ir.specs.Targets.{Bit}
use Rattle.design_ir.specs.Needed.{needed_whole}
use Rattle.flat_design.specs.Growing.{IsMore}
use Rattle.flat_design.specs.Activity.{IsActiveBit}
use Rattle.flat_design.specs.Adding.{IsAdded}
use Rattle.flat_design.proofs.Growing.{num_more, needed_whole_more}
use Rattle.flat_design.proofs.SourceLists.{if_ok3}
use Rattle.flat_design.proofs.Activities.{one_more, active_same, not_active}
use Rattle.flat_design.proofs.activity.negated.Goals as goal

pub returns-clause-bit : goal.returns-clause-bit
returns-clause-bit c =
    let p : Pooled = c.args.pool.now in
    let q : Pooled = c.added.new.pool in
    let holds : List ℤ → Bool = λ env. is_zero (num p env c.args.bit.0) in
    let bits : List Bit = needed_whole p c.args.bit in
    if_ok3 c.added.result (λ id. IsMore p q) (λ id. IsPool q) (IsAdded q (Unary Not c.args.bit)) (IsActiveBit q holds bits)
    c.added.ensures.more c.added.ensures.rules c.added.ensures.added
    (λ id more rules added.
    active_same q (λ env. is_zero (num q env c.args.bit.0)) holds (needed_whole q c.args.bit) bits (Some id)
    (λ env fit. ap is_zero (num_more p q c.known.ensures more env c.args.bit.0 c.requires.readable.there))
    (λ b n. subst (λ bs. Contains bs b) (needed_whole_more p q c.known.ensures more c.args.bit c.requires.readable.there) n)
    (not_active q c.args.bit id rules (one_more p q (Some c.args.bit) c.known.ensures more c.requires) added))
