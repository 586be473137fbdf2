use Rattle.std.specs.Prelude.{None, false, pos}
use Rattle.std.proofs.Common.{◌≡◌, ◌∙◌, ap, subst, sym}
use Rattle.shape_rules.specs.Forms.{common}
use Rattle.design_ir.specs.Pools.{Pooled}
use Rattle.design_ir.specs.declared.expr.Expr.TheVariants.{Const}
use Rattle.design_ir.specs.PoolRules.{IsPool, shape_stop, expr_added}
use Rattle.design_ir.specs.Values.{form}
use Rattle.domain_transforms.specs.Enabling.{zero_of}
use Rattle.domain_transforms.proofs.GateLaws.{gate_accepted}
use Rattle.domain_transforms.proofs.enabling.gated.Goals as goal

pub more-requires-2-clause-accepted : goal.more-requires-2-clause-accepted
more-requires-2-clause-accepted c =
    let q = c.args.pool.now in
    let e = c.args.enable in
    let z = c.in_ok-zero.zero in
    let grown : c.more.new.self ≡ zero_of q e =
    c.in_ok-zero.ensures.added.1 ∙ ap (λ n. expr_added q (Const n c.shape-shape.result)) c.of_u128.ensures ∙ ap (λ f. expr_added q (Const (pos 0) f)) c.shape-shape.ensures in
    subst (λ (r : Pooled). shape_stop false (common (form r e.0) (form r z.0)).width ≡ None) (sym grown)
    (gate_accepted q e c.known.ensures (subst IsPool grown c.known-2.ensures) c.requires.enable z c.in_ok-zero.ensures.added.0)
