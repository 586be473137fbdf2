-- Trees of lists: how many, and one more at the end.
use Rattle.std.proofs.Common.{◌≡◌, ℕ, zero, suc, ◌<◌, List, [], ◌∷◌, ◌++◌, length, refl, sym, ap, arith, Some, slice_get, slice_index_or}
use Rattle.design_ir.specs.Trees.{next, arm, statements, arms_of, block_len, block_and, choices_len, choices_and}
use Rattle.design_ir.specs.Statements.{block_of, choices_of, statement_of}
use Rattle.design_ir.specs.Forests.{grown, trees, forest_len, forest_and}
use Rattle.design_ir.specs.Fragments.{forest_of, leaf_of}
use Rattle.design_ir.specs.declared.stmt.Stmt.{Stmt}
use Rattle.design_ir.specs.declared.stmt.Arm.{Arm}
use Rattle.design_ir.specs.declared.fragment.Fragment.{Fragment}

pub block_len_is : (ss : List Stmt) → length ss ≡ block_len (block_of ss)
block_len_is [] = refl
block_len_is (s ∷ ss) = ap suc (block_len_is ss)

pub block_of_snoc : (ss : List Stmt) (s : Stmt) → block_of (ss ++ s ∷ []) ≡ block_and (block_of ss) (statement_of s)
block_of_snoc [] s = refl
block_of_snoc (t ∷ ss) s = ap (next (statement_of t)) (block_of_snoc ss s)

pub choices_len_is : (arms : List Arm) → length arms ≡ choices_len (choices_of arms)
choices_len_is [] = refl
choices_len_is (a ∷ arms) = ap suc (choices_len_is arms)

pub choices_of_snoc : (arms : List Arm) (a : Arm) → choices_of (arms ++ a ∷ []) ≡ choices_and (choices_of arms) a.condition a.body
choices_of_snoc [] a = refl
choices_of_snoc (b ∷ arms) a = ap (arm b.condition b.body) (choices_of_snoc arms a)

pub forest_len_is : (fs : List Fragment) → length fs ≡ forest_len (forest_of fs)
forest_len_is [] = refl
forest_len_is (f ∷ fs) = ap suc (forest_len_is fs)

pub forest_of_snoc : (fs : List Fragment) (f : Fragment) → forest_of (fs ++ f ∷ []) ≡ forest_and (forest_of fs) (leaf_of f) f.submodules
forest_of_snoc [] f = refl
forest_of_snoc (g ∷ fs) f = ap (grown (leaf_of g) g.submodules) (forest_of_snoc fs f)

-- ---- what stands at a place

pub statement_at : (ss : List Stmt) (i : ℕ) (s : Stmt) → i < length ss → s ≡ slice_index_or ss i s → slice_get (statements (block_of ss)) i ≡ Some (statement_of s)
statement_at [] i s h e = absurd (omega (arith, h))
statement_at (t ∷ ss) zero s h e = ap (λ x. Some (statement_of x)) (sym e)
statement_at (t ∷ ss) (suc i) s h e = statement_at ss i s (omega (arith, h)) e

pub arm_at : (arms : List Arm) (i : ℕ) (a : Arm) → i < length arms → a ≡ slice_index_or arms i a → slice_get (arms_of (choices_of arms)) i ≡ Some (a.condition, a.body)
arm_at [] i a h e = absurd (omega (arith, h))
arm_at (b ∷ arms) zero a h e = ap (λ (x : Arm). Some (x.condition, x.body)) (sym e)
arm_at (b ∷ arms) (suc i) a h e = arm_at arms i a (omega (arith, h)) e

pub tree_at : (fs : List Fragment) (i : ℕ) (f : Fragment) → i < length fs → f ≡ slice_index_or fs i f → slice_get (trees (forest_of fs)) i ≡ Some (leaf_of f, f.submodules)
tree_at [] i f h e = absurd (omega (arith, h))
tree_at (g ∷ fs) zero f h e = ap (λ (x : Fragment). Some (leaf_of x, x.submodules)) (sym e)
tree_at (g ∷ fs) (suc i) f h e = tree_at fs i f (omega (arith, h)) e
