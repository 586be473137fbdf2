use Rattle.std.proofs.Common.{◌≡◌, ◌+◌, ◌≤◌, length, drop}
use Rattle.design_ir.specs.Named.{AllBelow}
use Rattle.design_ir.specs.Values.{form, total_width}
use Rattle.design_ir.proofs.pool.Pool.joined_shape.Given as goal

abbrev pub invariant-loop-e : goal.invariant-loop-e
invariant-loop-e l =
    AllBelow (length l.self.exprs) (drop l.e-index l.e-items)
    × (l.width + total_width (form l.self) (drop l.e-index l.e-items) ≡ total_width (form l.self) l.items)
    × (l.width ≤ 128)
