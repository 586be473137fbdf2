use Rattle.std.proofs.Common.{◌≡◌, length, take}
use Rattle.design_ir.specs.Settling.{reshaped}
use Rattle.design_ir.proofs.pool.reshape.Given as goal

abbrev pub invariant-loop-i : goal.invariant-loop-i
invariant-loop-i l =
    (l.shapes.items ≡ reshaped l.s.0 l.shape (take l.i l.exprs) l.initial.shapes.items)
    × (length l.shapes.items ≡ length l.exprs)
