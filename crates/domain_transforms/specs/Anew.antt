-- What is known while expressions are made anew, one after another. (Internal: no rule of the language.)
use Rattle.std.specs.Prelude.{◌≡◌, ◌<◌, ℕ, Bool, List, ◌++◌, length, slice_get, Some}
use Rattle.std.specs.List.{filter, range_with_len}
use Rattle.design_ir.specs.declared.ids.ExprId.{ExprId}
use Rattle.design_ir.specs.Pools.{Pooled}
use Rattle.design_ir.specs.PoolRules.{IsPool}
use Rattle.design_ir.specs.Values.{form}
use Rattle.domain_transforms.specs.declared.controls.NamePair.{NamePair}
use Rattle.domain_transforms.specs.Renamed.{anew, new_exprs}

-- of the expressions before number k those that pass have new ones behind all of the pool's, in their order, and the table has
-- what stands for each
pub record AreAnew (names : List NamePair) (q : Pooled) (test : ℕ → Bool) (k : ℕ) (ids : List ExprId) (p : Pooled) : Type 0 where
  pub rules : IsPool q
  pub size : length ids ≡ k
  pub given : (j : ℕ) → j < k → slice_get ids j ≡ Some (anew (length q.exprs) (filter test (range_with_len 0 (length q.exprs))) (record { 0 = j }))
  pub pool : p ≡ record q { exprs = q.exprs ++ new_exprs names (anew (length q.exprs) (filter test (range_with_len 0 (length q.exprs)))) q.exprs (filter test (range_with_len 0 k)) }
  pub there : (j : ℕ) → j < k → (anew (length q.exprs) (filter test (range_with_len 0 (length q.exprs))) (record { 0 = j })).0 < length p.exprs
  pub forms : (j : ℕ) → j < k → form p (anew (length q.exprs) (filter test (range_with_len 0 (length q.exprs))) (record { 0 = j })).0 ≡ form q j

-- expression k is the next one
pub record IsNext (names : List NamePair) (q : Pooled) (test : ℕ → Bool) (k : ℕ) (passes : Bool) (ids : List ExprId) (p : Pooled) : Type 0 where
  pub so_far : AreAnew names q test k ids p
  pub here : k < length q.exprs
  pub test_is : passes ≡ test k
