-- Parts that stand one after another, within a class: each by itself.
use Rattle.std.proofs.Common.{◌≡◌, ◌≤◌, ◌∙◌, ℕ, refl, ap, List, [], ◌∷◌, map, length, take, take_all}
use Rattle.py_tree.specs.declared.expr.Operator.{Operator}
use Rattle.py_tree.specs.declared.expr.Expr.{Expr}
use Rattle.py_tree.specs.declared.expr.Link.{Link}
use Rattle.py_tree.specs.declared.expr.Pair.{Pair}
use Rattle.py_tree.specs.declared.expr.Trailer.{Trailer as Trailing}
use Rattle.py_tree.specs.declared.expr.Argument.{Argument as Given}
use Rattle.py_tree.specs.declared.stmt.Imported.{Imported}
use Rattle.py_tree.specs.declared.stmt.Param.{Param}
use Rattle.py_tree.specs.declared.stmt.Stmt.{Stmt}
use Rattle.py_tree.specs.declared.stmt.Branch.{Branch}
use Rattle.py_tree.specs.Seen.{tree, link_tree, pair_tree, trailer_of, argument_of}
use Rattle.py_tree.specs.Tree.{Tree, Trailer, Argument, some, link, pair, trailer, argument, trees, links, pairs, trailers, arguments}
use Rattle.py_tree.specs.Steps.{Import_name, Parameter, Step, Steps, next, branch, steps, branches}
use Rattle.py_tree.specs.Programs.{import_of, parameter_of, step_of, branch_of}
use Rattle.private_names.specs.Expressions.{mangled_tree, mangled_trees, mangled_links, mangled_pairs, mangled_trailers, mangled_trailer, mangled_arguments, mangled_argument}
use Rattle.private_names.specs.Statements.{mangled_import, mangled_parameter, mangled_step, mangled_steps, mangled_branches}

abbrev pub tree_within : List ℕ → Expr → Tree
tree_within class e = mangled_tree class (tree e)

abbrev pub link_within : List ℕ → Link → Operator × Tree
link_within class l = ((link_tree l).0, mangled_tree class (link_tree l).1)

abbrev pub pair_within : List ℕ → Pair → Tree × Tree
pair_within class p = (mangled_tree class (pair_tree p).0, mangled_tree class (pair_tree p).1)

abbrev pub trailer_within : List ℕ → Trailing → Trailer
trailer_within class t = mangled_trailer class (trailer_of t)

abbrev pub argument_within : List ℕ → Given → Argument
argument_within class a = mangled_argument class (argument_of a)

pub trees_within : (class : List ℕ) (es : List Expr) → trees (map (tree_within class) es) ≡ mangled_trees class (trees (map tree es))
trees_within class [] = refl
trees_within class (e ∷ es) = ap (some (tree_within class e)) (trees_within class es)

pub links_within : (class : List ℕ) (ls : List Link) → links (map (link_within class) ls) ≡ mangled_links class (links (map link_tree ls))
links_within class [] = refl
links_within class (l ∷ ls) = ap (link (link_tree l).0 (mangled_tree class (link_tree l).1)) (links_within class ls)

pub pairs_within : (class : List ℕ) (ps : List Pair) → pairs (map (pair_within class) ps) ≡ mangled_pairs class (pairs (map pair_tree ps))
pairs_within class [] = refl
pairs_within class (p ∷ ps) = ap (pair (mangled_tree class (pair_tree p).0) (mangled_tree class (pair_tree p).1)) (pairs_within class ps)

pub trailers_within : (class : List ℕ) (ts : List Trailing) → trailers (map (trailer_within class) ts) ≡ mangled_trailers class (trailers (map trailer_of ts))
trailers_within class [] = refl
trailers_within class (t ∷ ts) = ap (trailer (trailer_within class t)) (trailers_within class ts)

pub arguments_within : (class : List ℕ) (as_given : List Given) → arguments (map (argument_within class) as_given) ≡ mangled_arguments class (arguments (map argument_of as_given))
arguments_within class [] = refl
arguments_within class (a ∷ as_given) = ap (argument (argument_within class a)) (arguments_within class as_given)

abbrev pub import_within : List ℕ → Imported → Import_name
import_within class x = mangled_import class (import_of x)

abbrev pub parameter_within : List ℕ → Param → Parameter
parameter_within class x = mangled_parameter class (parameter_of x)

abbrev pub step_within : List ℕ → Stmt → Step
step_within class s = mangled_step class (step_of s)

abbrev pub branch_within : List ℕ → Branch → Tree × Steps
branch_within class b = (mangled_tree class (branch_of b).0, mangled_steps class (branch_of b).1)

pub imports_within : (class : List ℕ) (xs : List Imported) → map (import_within class) xs ≡ map (mangled_import class) (map import_of xs)
imports_within class [] = refl
imports_within class (x ∷ xs) = ap (λ z. import_within class x ∷ z) (imports_within class xs)

pub parameters_within : (class : List ℕ) (xs : List Param) → map (parameter_within class) xs ≡ map (mangled_parameter class) (map parameter_of xs)
parameters_within class [] = refl
parameters_within class (x ∷ xs) = ap (λ z. parameter_within class x ∷ z) (parameters_within class xs)

pub steps_within : (class : List ℕ) (ss : List Stmt) → steps (map (step_within class) ss) ≡ mangled_steps class (steps (map step_of ss))
steps_within class [] = refl
steps_within class (s ∷ ss) = ap (next (step_within class s)) (steps_within class ss)

pub branches_within : (class : List ℕ) (bs : List Branch) → branches (map (branch_within class) bs) ≡ mangled_branches class (branches (map branch_of bs))
branches_within class [] = refl
branches_within class (b ∷ bs) = ap (branch (mangled_tree class (branch_of b).0) (mangled_steps class (branch_of b).1)) (branches_within class bs)

-- a loop that has come to the end has made all
pub all_made : {A B : Type 0} (f : A → B) (xs all : List A) (n : ℕ) (made : List B) → xs ≡ all → length xs ≤ n → made ≡ map f (take n xs) → made ≡ map f all
all_made f xs all n made same end h = h ∙ ap (map f) (take_all n xs end ∙ same)
