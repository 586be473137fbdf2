-- The names of domains as they are found: in each fragment those of the resets of which it is the first that holds them. (Internal:
-- no rule of the language.)
use Rattle.std.specs.Prelude.{ℕ, suc, ◌==◌, Bool, false, List, [], ◌∷◌, ◌++◌, map, slice_get, slice_index_or, slice_set, Option, Some, None, option_and_then}
use Rattle.std.specs.List.{filter, filter_map, range_with_len}
use Rattle.design_ir.specs.declared.expr.Expr.{Expr}
use Rattle.design_ir.specs.declared.fragment.Fragment.{Fragment}
use Rattle.design_ir.specs.Forests.{Leaf, Forest}
use Rattle.design_ir.specs.Fragments.{leaf_of}
use Rattle.design_ir.specs.Pools.{Pooled}
use Rattle.fragment_walks.specs.Numbers.{first_at}
use Rattle.fragment_walks.specs.Held.{ResetCall, reset_call}
use Rattle.fragment_walks.specs.Walks.{gathered}

-- a fragment and those below it, in the walk
abbrev pub leaves_of : Forest → List Leaf
leaves_of f = gathered (λ (l : Leaf). l ∷ []) f

abbrev pub all_leaves : Fragment → List Leaf
all_leaves f = leaf_of f ∷ leaves_of f.submodules

abbrev pub is_number : ℕ → Option ℕ → Bool
is_number n None = false
is_number n (Some k) = k == n

-- the names of the resets with this number, in order of making, of the first so many expressions
abbrev pub new_resets : Pooled → List (Option ℕ) → ℕ → ℕ → List (List ℕ)
new_resets q firsts count n =
    map (λ (r : ResetCall). r.domain) (filter_map (λ k. option_and_then reset_call (slice_get q.exprs k)) (filter (λ k. is_number n (first_at firsts k)) (range_with_len 0 count)))

-- the names of fragments that are numbered from n on, each behind its own
abbrev pub with_resets : Pooled → List (Option ℕ) → ℕ → ℕ → List (List (List ℕ)) → List (List (List ℕ))
with_resets q firsts count n [] = []
with_resets q firsts count n (own ∷ more) = (own ++ new_resets q firsts count n) ∷ with_resets q firsts count (suc n) more

-- one name more behind those of the fragment with this number, where the expression is a reset
abbrev pub with_name : ℕ → Expr → List (List (List ℕ)) → List (List (List ℕ))
with_name n e names = slice_set names n (slice_index_or names n [] ++ map (λ (r : ResetCall). r.domain) (filter_map reset_call (e ∷ [])))
