use Rattle.std.proofs.Common.{◌≡◌, length, drop}
use Rattle.design_ir.specs.Named.{AllBelow}
use Rattle.design_ir.specs.Values.{form, common_with, common_of_all}
use Rattle.design_ir.proofs.pool.Pool.common_shape_of.Given as goal

abbrev pub invariant-loop-e : goal.invariant-loop-e
invariant-loop-e l =
    AllBelow (length l.self.exprs) (drop l.e-index l.e-items)
    × (common_with (form l.self) l.shape (drop l.e-index l.e-items) ≡ common_of_all (form l.self) l.items)
