use Rattle.std.proofs.Common.{arith, ap, subst}
use Rattle.shape_rules.specs.Forms.{Form, IsForm}
use Rattle.design_ir.specs.Pools.{Pooled}
use Rattle.design_ir.specs.declared.signal.Sig.{Sig}
use Rattle.design_ir.proofs.Growth.{cached_signal}
use Rattle.design_ir.proofs.pool.Pool.sig.Goals as goal

pub invariant_of-self : goal.invariant_of-self
invariant_of-self c =
    let p : Pooled = record { signals = c.self.inside.sigs.items; exprs = c.self.inside.exprs.items } in
    let w = ap (λ (x : Sig). x.shape.width) c.s.view_is in
    rw (c.in-Ok.ensures.items, w) (cached_signal p c.self.inside.shapes.items c.self.inside.bits c.args.s c.self.invariant (subst (λ (f : Form). IsForm f.width f.signed) (ap (λ (x : Sig). x.shape) c.s.view_is) c.s.invariant) c.requires (omega (arith, c.if-len-ge16384.false, c.len.ensures)) (omega (arith, c.if-self-width-gt262144.false, w)))
