use Rattle.design_ir.specs.Pools.{Pooled}
use Rattle.design_ir.proofs.Growth.{cached_expr}
use Rattle.design_ir.proofs.pool.Pool.put.Goals as goal

pub invariant_of-self-in-Ok : goal.invariant_of-self-in-Ok
invariant_of-self-in-Ok c =
    let p : Pooled = record { signals = c.self.inside.sigs.items; exprs = c.self.inside.exprs.items } in
    rw (c.in_ok-push.ensures.items, c.in-Ok.ensures.items)
    (cached_expr p c.self.inside.shapes.items c.self.inside.bits c.args.e c.args.shape c.self.invariant c.requires.formed
    (rw (← c.self.view_is) at c.requires.askable)
    (rw (← c.self.view_is) at c.requires.accepted)
    (rw (← c.self.view_is) at c.requires.shape)
    (rw (← c.self.view_is) at c.requires.room))
