use Rattle.std.proofs.Common.{ap, arith, length}
use Rattle.design_ir.specs.Pools.{Pooled}
use Rattle.design_ir.proofs.PrefixLaws.{cached_first}
use Rattle.design_ir.proofs.pool.Pool.keep_first.Goals as goal

pub invariant_of-self : goal.invariant_of-self
invariant_of-self c =
    let p : Pooled = record { signals = c.self.inside.sigs.items; exprs = c.self.inside.exprs.items } in
    let n = ap (λ (x : Pooled). length x.exprs) c.self.view_is in
    rw (c.truncate.ensures.items, c.truncate-2.ensures.items)
    (cached_first p c.self.inside.shapes.items c.self.inside.bits c.args.count c.self.invariant (omega (arith, n, c.requires)))
