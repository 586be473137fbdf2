-- Expressions that are below a number, one by one.
use Rattle.std.proofs.Common.{ℕ, zero, suc, ◌<◌, List, [], ◌∷◌, length, arith, slice_index_or}
use Rattle.design_ir.specs.declared.ids.ExprId.{ExprId}
use Rattle.design_ir.specs.Named.{AllBelow}

pub below_at : (n : ℕ) (es : List ExprId) (i : ℕ) (d : ExprId) → AllBelow n es → i < length es → (slice_index_or es i d).0 < n
below_at n [] i d h in' = absurd (omega (arith, in'))
below_at n (e ∷ es) zero d h in' = h.0
below_at n (e ∷ es) (suc i) d h in' = below_at n es i d h.1 (omega (arith, in'))
