-- The numbers of a pool's expressions, in lists. (Internal: no rule of the language.)
use Rattle.std.specs.Prelude.{◌≡◌, ◌<◌, ℕ, suc, ◌==◌, Bool, false, if◌then◌else◌, List, [], ◌∷◌, slice_get, Some}
use Rattle.design_ir.specs.declared.expr.Expr.{Expr}
use Rattle.design_ir.specs.Pools.{answers}
use Rattle.expr_index.specs.First.{reset_step}
use Rattle.expr_index.specs.Lists.{list_of, list_count}

-- numbers of expressions, in lists; and of each expression whether a reset stands in it
pub record Index : Type 0 where
  pub lists : List (List ℕ)
  pub resets : List Bool

-- the numbers of those expressions that stand in list n, ascending; the first expression has number k
abbrev pub numbers_in : ℕ → ℕ → List Expr → List ℕ
numbers_in n k [] = []
numbers_in n k (e ∷ es) = if list_of e == n then k ∷ numbers_in n (suc k) es else numbers_in n (suc k) es

-- list n has the numbers of the expressions whose list it is, and nothing else; the flags are the answers to whether a reset stands there
pub record Knows (x : Index) (es : List Expr) : Type 0 where
  pub lists : (n : ℕ) → n < list_count → slice_get x.lists n ≡ Some (numbers_in n 0 es)
  pub resets : x.resets ≡ answers false reset_step [] es
