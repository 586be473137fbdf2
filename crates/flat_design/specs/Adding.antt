-- Expressions that a pass adds to a pool.
use Rattle.std.specs.Prelude.{◌≡◌, ℕ, ◌+◌, List, [], ◌∷◌, length, take, drop, slice_get, Some, false}
use Rattle.design_ir.specs.declared.ids.ExprId.{ExprId}
use Rattle.design_ir.specs.declared.expr.Expr.{Expr}
use Rattle.design_ir.specs.Pools.{Pooled}
use Rattle.design_ir.specs.Values.{form}
use Rattle.design_ir.specs.Designs.{holds_reset}
use Rattle.flat_design.specs.declared.sources.Source.{Source}
use Rattle.flat_design.specs.Sources.{IsSource, IsJoined}

-- the expression stands in the pool under this number, and no reset in it
pub record IsAdded (p : Pooled) (e : Expr) (id : ExprId) : Type 0 where
  pub stands : slice_get p.exprs id.0 ≡ Some e
  pub resolved : holds_reset p id.0 ≡ false

-- ---- one expression for many bits

-- neighbouring bits of one expression, the lowest first
abbrev pub IsRun : List Source → Type 0
IsRun xs = (j : ℕ) (x y : Source) → slice_get xs 0 ≡ Some x → slice_get xs j ≡ Some y → y ≡ record { expr = x.expr; bit = x.bit + j }

-- an expression of these sources
pub record IsPart (p : Pooled) (xs : List Source) (e : ExprId) : Type 0 where
  pub sources : (j : ℕ) (x : Source) → slice_get xs j ≡ Some x → IsSource p x
  pub joined : IsJoined p xs e

-- expressions each of which is of the next of these sources
abbrev pub AreParts : Pooled → List Source → List ExprId → Type 0
AreParts p xs [] = xs ≡ []
AreParts p xs (e ∷ es) = IsPart p (take (form p e.0).width xs) e × AreParts p (drop (form p e.0).width xs) es

-- ---- bits of an expression

-- so many bits of an expression, the lowest first
pub record AreBits (e : ExprId) (n : ℕ) (xs : List Source) : Type 0 where
  pub size : length xs ≡ n
  pub each : (j : ℕ) (x : Source) → slice_get xs j ≡ Some x → x ≡ record { expr = e; bit = j }
