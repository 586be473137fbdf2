-- The first fragment that holds each expression, by its number. (Internal: no rule of the language.)
use Rattle.std.specs.Prelude.{◌≡◌, ℕ, ◌<◌, List, length, take, Option}
use Rattle.std.specs.List.{flat_map}
use Rattle.design_ir.specs.declared.ids.ExprId.{ExprId}
use Rattle.design_ir.specs.Pools.{Pooled}
use Rattle.fragment_walks.specs.Held.{is_within}
use Rattle.fragment_walks.specs.Marks.{is_marked}
use Rattle.fragment_walks.specs.Numbers.{bounded}

-- all that stand directly in the first fragments
abbrev pub first_roots : ℕ → List (List ExprId) → List ExprId
first_roots i roots = flat_map (λ es. es) (take i roots)

abbrev pub all_roots : List (List ExprId) → List ExprId
all_roots roots = flat_map (λ es. es) roots

-- the expressions that numbers below a bound have are those that stand in so many fragments
pub record AreHolders (q : Pooled) (roots : List (List ExprId)) (firsts : List (Option ℕ)) : Type 0 where
  pub size : length firsts ≡ length q.exprs
  pub each : (i k : ℕ) → k < length q.exprs → is_marked (bounded i firsts) k ≡ is_within q (first_roots i roots) k
