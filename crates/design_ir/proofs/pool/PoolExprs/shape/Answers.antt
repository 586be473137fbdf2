use Rattle.std.proofs.Common.{◌∙◌, ap, length, arith}
use Rattle.std.proofs.lemmas.List.{get_or_read}
use Rattle.shape_rules.specs.Forms.{unsigned}
use Rattle.design_ir.specs.Pools.{Pooled}
use Rattle.design_ir.specs.Values.{form}
use Rattle.design_ir.proofs.Shapes.{shapes_length, shape_is}
use Rattle.design_ir.proofs.pool.PoolExprs.shape.Goals as goal

pub index-requires : goal.index-requires
index-requires c =
    let p : Pooled = record { signals = c.self.inside.sigs.items; exprs = c.self.inside.exprs.items } in
    let n = shapes_length p.signals p.exprs _ c.self.invariant.shapes_are in
    let same = ap (λ (x : Pooled). length x.exprs) c.self.view_is in
    omega (arith, n, same, c.requires)

pub returns : goal.returns
returns c =
    let p : Pooled = record { signals = c.self.inside.sigs.items; exprs = c.self.inside.exprs.items } in
    let n = shapes_length p.signals p.exprs _ c.self.invariant.shapes_are in
    let same = ap (λ (x : Pooled). length x.exprs) c.self.view_is in
    get_or_read c.self.inside.shapes.items _ _ (omega (arith, n, same, c.requires)) c.index.ensures (unsigned 0)
    ∙ shape_is p _ _ c.self.invariant.shapes_are
    ∙ ap (λ x. form x c.args.e.0) c.self.view_is
