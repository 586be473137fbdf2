use Rattle.std.proofs.Common.{◌∙◌, sym, ap, arith, length, subst}
use Rattle.shape_rules.specs.Forms.{Form, IsForm}
use Rattle.design_ir.specs.Pools.{Pooled}
use Rattle.design_ir.specs.Settling.{IsUnsettled}
use Rattle.design_ir.proofs.Shapes.{shapes_length}
use Rattle.design_ir.proofs.SettlingLaws.{settle_keeps, settle_gives, settle_fits}
use Rattle.design_ir.proofs.pool.Pool.settle.Goals as goal

pub reshape-requires : goal.reshape-requires
reshape-requires c =
    shapes_length c.self.inside.sigs.items c.self.inside.exprs.items c.self.inside.shapes.items c.self.invariant.shapes_are ∙ ap length (sym c.as_slice.ensures.value)

pub invariant_of-self : goal.invariant_of-self
invariant_of-self c =
    let p : Pooled = record { signals = c.self.inside.sigs.items; exprs = c.self.inside.exprs.items } in
    let w = ap (λ (f : Form). f.width) c.shape.view_is in
    rw w
    (settle_keeps p c.self.inside.shapes.items c.reshape.new.shapes.items c.self.inside.bits c.args.s.0 c.args.shape c.args.init c.index_mut-sig.result.now
    c.self.invariant
    (subst (λ q. IsUnsettled q c.args.s.0) (sym c.self.view_is) c.requires.unsettled)
    (subst (λ (f : Form). IsForm f.width f.signed) c.shape.view_is c.shape.invariant)
    c.requires.init
    (omega (arith, c.if-self-width-gt262144.false, w))
    c.index_mut-sig.ensures.value
    (rw c.as_slice.ensures.value at c.reshape.ensures))

pub returns-clause-settled : goal.returns-clause-settled
returns-clause-settled c =
    let p : Pooled = record { signals = c.self.inside.sigs.items; exprs = c.self.inside.exprs.items } in
    let w = ap (λ (f : Form). f.width) c.shape.view_is in (
      settle_fits p c.args.self.now c.self.inside.bits c.args.shape.width c.self.view_is c.self.invariant.bits_are (omega (arith, c.if-self-width-gt262144.false, w)),
      settle_gives p c.args.self.now c.args.s.0 c.args.shape c.args.init c.index_mut-sig.result.now c.self.view_is
          (subst (λ q. IsUnsettled q c.args.s.0) (sym c.self.view_is) c.requires.unsettled).there
          c.index_mut-sig.ensures.value,
    )
