use Rattle.std.proofs.Common.{◌≡◌, ◌<◌, length, sym, subst}
use Rattle.shape_rules.specs.Forms.{unsigned}
use Rattle.design_ir.specs.Pools.{Pooled}
use Rattle.design_ir.specs.Placing.{IsResetAt}
use Rattle.design_ir.specs.Values.{signal_form}
use Rattle.design_ir.proofs.PlacingLaws.{reset_keeps}
use Rattle.design_ir.proofs.pool.Pool.place_reset.Goals as goal

pub invariant_of-self : goal.invariant_of-self
invariant_of-self c =
    let p : Pooled = record { signals = c.self.inside.sigs.items; exprs = c.self.inside.exprs.items } in
    reset_keeps p c.self.inside.shapes.items c.self.inside.bits c.args.e.0 c.args.s
    (subst (λ q. IsResetAt q c.args.e.0) (sym c.self.view_is) c.requires.reset)
    (subst (λ (q : Pooled). c.args.s.0 < length q.signals) (sym c.self.view_is) c.requires.there)
    (subst (λ (q : Pooled). signal_form q.signals c.args.s.0 ≡ unsigned 1) (sym c.self.view_is) c.requires.bit)
    c.self.invariant
