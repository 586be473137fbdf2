-- The names that are a function's, a class body's or a comprehension's own: those that its code binds.
-- Source: Python reference 4.2.1, Binding of names; 7.2.2, Annotated assignment statements.
use Rattle.std.specs.Prelude.{ℕ, Bool, false, if◌then◌else◌, List, [], ◌∷◌, ◌++◌, map, Option, Some, None}
use Rattle.amh_host.specs.declared.place.Place.{Place}
use Rattle.py_tree.specs.Tree.{Tree, Name, Tuple, Trees, none, some, Perhaps, absent, present}
use Rattle.py_tree.specs.Steps.{Step, Pass, Break, Continue, Return, Assert, Raise, ImportAll, Import, Assign, Annotate, Augment, Evaluate, If, While, For, With, Def, Class, Steps, last, next, Branches, no_branch, branch, Otherwise, nothing_else, otherwise, Body, Fun, Import_name, Parameter, Named, Star}
use Rattle.py_frames.specs.Functions.{same_place}

-- the names that a target binds, from left to right
abbrev mutual
  pub target_names : Tree → List (List ℕ)
  target_names (Name p n) = n ∷ []
  target_names (Tuple p ts) = targets_names ts
  target_names _ = []

  pub targets_names : Trees → List (List ℕ)
  targets_names none = []
  targets_names (some t ts) = target_names t ++ targets_names ts

abbrev pub perhaps_names : Perhaps → List (List ℕ)
perhaps_names absent = []
perhaps_names (present t) = target_names t

-- whether an annotated target is a name without brackets: it stands where the statement begins
abbrev pub is_simple : Place → Tree → Bool
is_simple p (Name q n) = same_place p q
is_simple p t = false

-- what an annotation binds: without a value it makes only a name without brackets one of the body's own
abbrev pub annotated_names : Place → Tree → Perhaps → List (List ℕ)
annotated_names p t absent = if is_simple p t then target_names t else []
annotated_names p t (present e) = target_names t

-- an imported name is bound as what `as` says
abbrev pub imported_as : List ℕ → Option (List ℕ) → List ℕ
imported_as name None = name
imported_as name (Some other) = other

abbrev pub import_bound : Import_name → List ℕ
import_bound x = imported_as x.name x.bound

abbrev pub body_name : Body → List ℕ
body_name (Fun p name is_async params result body) = name

-- the names that statements bind, but for those in functions and classes among them
abbrev mutual
  pub step_names : Step → List (List ℕ)
  step_names (Pass p) = []
  step_names (Break p) = []
  step_names (Continue p) = []
  step_names (Return p e) = []
  step_names (Assert p e m) = []
  step_names (Raise p e) = []
  step_names (ImportAll p path) = []
  step_names (Import p path names) = map import_bound names
  step_names (Assign p ts e) = targets_names ts
  step_names (Annotate p t a e) = annotated_names p t e
  step_names (Augment p t o e) = target_names t
  step_names (Evaluate p e) = []
  step_names (If p bs b) = branches_names bs ++ else_names b
  step_names (While p e b) = steps_names b
  step_names (For p t e b) = target_names t ++ steps_names b
  step_names (With p e t b) = perhaps_names t ++ steps_names b
  step_names (Def p f) = body_name f ∷ []
  step_names (Class p n a b) = n ∷ []

  pub steps_names : Steps → List (List ℕ)
  steps_names last = []
  steps_names (next s ss) = step_names s ++ steps_names ss

  pub branches_names : Branches → List (List ℕ)
  branches_names no_branch = []
  branches_names (branch t b bs) = steps_names b ++ branches_names bs

  pub else_names : Otherwise → List (List ℕ)
  else_names nothing_else = []
  else_names (otherwise b) = steps_names b

abbrev pub parameter_names : List Parameter → List (List ℕ)
parameter_names [] = []
parameter_names (Named p n a d ∷ ps) = n ∷ parameter_names ps
parameter_names (Star p ∷ ps) = parameter_names ps

-- a function's own names
abbrev pub function_names : Body → List (List ℕ)
function_names (Fun p name is_async params result body) = parameter_names params ++ steps_names body
