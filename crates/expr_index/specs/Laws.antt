-- What expressions that are the same are, and what is known where the numbers of a pool's expressions stand in lists.
use Rattle.std.specs.Prelude.{◌≡◌, ◌≤◌, ◌<◌, ◌↔◌, ⊤, ℕ, suc, true, List, [], ◌∷◌, length, slice_get, Some, Contains}
use Rattle.design_ir.specs.declared.expr.Expr.{Expr}
use Rattle.expr_index.specs.First.{has_reset}
use Rattle.expr_index.specs.Knows.{Index, Knows}
use Rattle.expr_index.specs.Lists.{list_of, list_count}
use Rattle.expr_index.specs.Same.{same}

abbrev pub SameIsEqual : Type 0
SameIsEqual = (a b : Expr) → (same a b ≡ true) ↔ (a ≡ b)

-- k is the number of an expression whose list is n
pub record IsNumberIn (es : List Expr) (n k : ℕ) : Type 0 where
  pub expr : Expr
  pub here : slice_get es k ≡ Some expr
  pub list : list_of expr ≡ n

-- from the least on, each greater than the one before it
abbrev pub Ascend : ℕ → List ℕ → Type 0
Ascend least [] = ⊤
Ascend least (k ∷ ks) = (least ≤ k) × Ascend (suc k) ks

-- the number of each expression stands in its list, and nothing else does; each list ascends
abbrev pub ListsHaveNumbers : Type 0
ListsHaveNumbers = (x : Index) (es : List Expr) → Knows x es → (n : ℕ) (ks : List ℕ) → n < list_count → slice_get x.lists n ≡ Some ks → Ascend 0 ks × ((k : ℕ) → Contains ks k ↔ IsNumberIn es n k)

-- of each expression it is known whether a reset stands in it
abbrev pub FlagsAreResets : Type 0
FlagsAreResets = (x : Index) (es : List Expr) → Knows x es → (length x.resets ≡ length es) × ((k : ℕ) → k < length es → slice_get x.resets k ≡ Some (has_reset es k))
