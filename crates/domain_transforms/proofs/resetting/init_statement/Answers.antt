use Rattle.std.proofs.Common.{refl, sym, subst}
use Rattle.design_ir.specs.Pools.{Pooled}
use Rattle.design_ir.specs.declared.expr.Expr.TheVariants.{Const}
use Rattle.flat_design.proofs.Choosing.{fits_stop}
use Rattle.domain_transforms.specs.Placed.{ArePlaces}
use Rattle.domain_transforms.proofs.GateLaws.{form_width}
use Rattle.domain_transforms.proofs.PlaceLaws.{places_other}
use Rattle.domain_transforms.proofs.resetting.init_statement.Goals as goal

pub more-requires-clause-accepted : goal.more-requires-clause-accepted
more-requires-clause-accepted c =
    let r = c.args.register.now in
    fits_stop r.shape.width (form_width r.shape.width r.shape.signed c.requires.shape)

pub returns-clause-places : goal.returns-clause-places
returns-clause-places c = λ places h.
    let r = c.args.register.now in
    subst (λ (q : Pooled). ArePlaces q.exprs places) (sym c.in_ok-value.ensures.added.1) (places_other c.args.pool.now.exprs places (Const r.init r.shape) (λ s. refl) h)
