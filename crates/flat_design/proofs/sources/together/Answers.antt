use Rattle.std.proofs.Common.{sym, ◌∙◌}
use Rattle.design_ir.specs.declared.expr.Expr.TheVariants.{Cat}
use Rattle.design_ir.specs.PoolRules.{IsPool}
use Rattle.flat_design.specs.Growing.{IsMore}
use Rattle.flat_design.specs.Sources.{IsJoined}
use Rattle.flat_design.specs.Adding.{IsAdded}
use Rattle.flat_design.proofs.SourceLists.{if_ok3}
use Rattle.flat_design.proofs.Joining.{parts_more, one_joined, cat_joined}
use Rattle.flat_design.proofs.sources.together.Goals as goal

pub returns-then-len-eq1-clause-joined : goal.returns-then-len-eq1-clause-joined
returns-then-len-eq1-clause-joined c =
    λ sources parts. one_joined c.args.pool.now sources c.args.parts c.get.result.now (sym c.len.ensures ∙ c.if-len-eq1.true) c.get.ensures.lookup parts

pub returns-clause-joined : goal.returns-clause-joined
returns-clause-joined c =
    λ sources parts.
    if_ok3 c.added.result (λ id. IsMore c.args.pool.now c.added.new.pool) (λ id. IsPool c.added.new.pool) (IsAdded c.added.new.pool (Cat c.args.parts)) (IsJoined c.added.new.pool sources)
    c.added.ensures.more c.added.ensures.rules c.added.ensures.added
    (λ id more rules added. cat_joined c.added.new.pool sources c.args.parts id rules (parts_more c.args.pool.now c.added.new.pool c.known.ensures more sources c.args.parts parts) added)
