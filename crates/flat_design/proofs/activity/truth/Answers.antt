use Rattle.std.specs.Prelude.{Bool, not, List, ℤ, Some, Contains}
use Rattle.std.proofs.Common.{ap, subst}
use Rattle.shape_rules.specs.Operators.{is_zero}
use Rattle.shape_rules.specs.declared.op.Op.TheVariants.{Any}
use Rattle.design_ir.specs.declared.expr.Expr.TheVariants.{Unary}
use Rattle.design_ir.specs.Pools.{Pooled}
use Rattle.design_ir.specs.PoolRules.{IsPool}
use Rattle.design_ir.specs.Values.{num}
use Rattle.design_ir.specs.Targets.{Bit}
use Rattle.design_ir.specs.Needed.{needed_whole}
use Rattle.flat_design.specs.Growing.{IsMore}
use Rattle.flat_design.specs.Activity.{IsActiveBit}
use Rattle.flat_design.specs.Adding.{IsAdded}
use Rattle.flat_design.proofs.Growing.{num_more, needed_whole_more}
use Rattle.flat_design.proofs.SourceLists.{if_ok3}
use Rattle.flat_design.proofs.Activities.{active_same, any_active}
use Rattle.flat_design.proofs.activity.truth.Goals as goal

pub returns-clause-bit : goal.returns-clause-bit
returns-clause-bit c =
    let p : Pooled = c.args.pool.now in
    let q : Pooled = c.added.new.pool in
    let holds : List ℤ → Bool = λ env. not (is_zero (num p env c.args.e.0)) in
    let bits : List Bit = needed_whole p c.args.e in
    if_ok3 c.added.result (λ id. IsMore p q) (λ id. IsPool q) (IsAdded q (Unary Any c.args.e)) (IsActiveBit q holds bits)
    c.added.ensures.more c.added.ensures.rules c.added.ensures.added
    (λ id more rules added.
    active_same q (λ env. not (is_zero (num q env c.args.e.0))) holds (needed_whole q c.args.e) bits (Some id)
    (λ env fit. ap (λ z. not (is_zero z)) (num_more p q c.known.ensures more env c.args.e.0 c.requires.there))
    (λ b n. subst (λ bs. Contains bs b) (needed_whole_more p q c.known.ensures more c.args.e c.requires.there) n)
    (any_active q c.args.e id rules added))
