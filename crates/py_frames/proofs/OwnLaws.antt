-- Names that are bound, as the names of each part one after the other.
use Rattle.std.proofs.Common.{◌≡◌, ℕ, refl, ap, List, [], ◌∷◌, ◌++◌, map}
use Rattle.std.specs.List.{flat_map}
use Rattle.py_tree.specs.declared.expr.Expr.{Expr}
use Rattle.py_tree.specs.declared.stmt.Stmt.{Stmt}
use Rattle.py_tree.specs.declared.stmt.Branch.{Branch}
use Rattle.py_tree.specs.declared.stmt.Param.{Param}
use Rattle.py_tree.specs.declared.stmt.Param.TheVariants as params
use Rattle.py_tree.specs.Seen.{tree}
use Rattle.py_tree.specs.Tree.{trees}
use Rattle.py_tree.specs.Steps.{steps, branches}
use Rattle.py_tree.specs.Programs.{step_of, branch_of, parameter_of}
use Rattle.py_frames.specs.Own.{target_names, targets_names, step_names, steps_names, branches_names, parameter_names}

abbrev pub names_of_target : Expr → List (List ℕ)
names_of_target e = target_names (tree e)

abbrev pub names_of_stmt : Stmt → List (List ℕ)
names_of_stmt s = step_names (step_of s)

abbrev pub names_of_branch : Branch → List (List ℕ)
names_of_branch b = steps_names (branch_of b).1

abbrev pub names_of_param : Param → List (List ℕ)
names_of_param p = parameter_names (parameter_of p ∷ [])

pub flat_map_targets : (ts : List Expr) → flat_map names_of_target ts ≡ targets_names (trees (map tree ts))
flat_map_targets [] = refl
flat_map_targets (t ∷ ts) = ap (λ z. target_names (tree t) ++ z) (flat_map_targets ts)

pub flat_map_stmts : (ss : List Stmt) → flat_map names_of_stmt ss ≡ steps_names (steps (map step_of ss))
flat_map_stmts [] = refl
flat_map_stmts (s ∷ ss) = ap (λ z. step_names (step_of s) ++ z) (flat_map_stmts ss)

pub flat_map_branches : (bs : List Branch) → flat_map names_of_branch bs ≡ branches_names (branches (map branch_of bs))
flat_map_branches [] = refl
flat_map_branches (b ∷ bs) = ap (λ z. steps_names (branch_of b).1 ++ z) (flat_map_branches bs)

pub flat_map_params : (ps : List Param) → flat_map names_of_param ps ≡ parameter_names (map parameter_of ps)
flat_map_params [] = refl
flat_map_params (params.Named p n a d ∷ ps) = ap (λ z. n ∷ z) (flat_map_params ps)
flat_map_params (params.Star p ∷ ps) = flat_map_params ps
