use Rattle.std.proofs.Common.{arith, sym, ◌∙◌}
use Rattle.design_ir.proofs.Counts.{named_below}
use Rattle.design_ir.proofs.design.Design.domain_named.Goals as goal

pub overflow_cast-result : goal.overflow_cast-result
overflow_cast-result c =
    omega (arith, named_below _ c.args.name.now c.in-Some.place c.self.invariant.0 c.self.invariant.1 (rw c.as_slice.ensures at (sym c.position_named.ensures ∙ c.in-Some.is)))
