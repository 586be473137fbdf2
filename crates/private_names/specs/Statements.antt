-- Private names in statements, and in whole programs.
-- Source: Python reference 6.2.1, Identifiers (Names), "Private name mangling"; 8.7 and 8.8, Function and Class definitions.
-- What the reference leaves open is as CPython 3.11 compiles it.
use Rattle.std.specs.Prelude.{ℕ, Bool, true, false, ◌||◌, List, [], ◌∷◌, map, option_map}
use Rattle.py_tree.specs.Steps.{Step, Pass, Break, Continue, Return, Assert, Raise, ImportAll, Import, Assign, Annotate, Augment, Evaluate, If, While, For, With, Def, Class, Steps, last, next, Branches, no_branch, branch, Otherwise, nothing_else, otherwise, Body, Fun, Import_name, Parameter, Named, Star, Bases, no_bases, bases}
use Rattle.private_names.specs.Names.{mangled_name, without_underscores}
use Rattle.private_names.specs.Expressions.{mangled_tree, mangled_trees, mangled_perhaps, mangled_trailer}

-- a module that one name tells is named as others; one that names with dots between them tell has a dot in its name, so it
-- is not private
abbrev pub mangled_path : List ℕ → List (List ℕ) → List (List ℕ)
mangled_path class [] = []
mangled_path class (name ∷ []) = mangled_name class name ∷ []
mangled_path class (first ∷ second ∷ more) = first ∷ second ∷ more

-- an imported name, and what it is bound to
abbrev pub mangled_import : List ℕ → Import_name → Import_name
mangled_import class x = record { place = x.place; name = mangled_name class x.name; bound = option_map (mangled_name class) x.bound }

abbrev pub mangled_parameter : List ℕ → Parameter → Parameter
mangled_parameter class (Named p name annotation default_value) = Named p (mangled_name class name) (mangled_perhaps class annotation) (mangled_perhaps class default_value)
mangled_parameter class (Star p) = Star p

-- what stands in the brackets of a class
abbrev pub mangled_bases : List ℕ → Bases → Bases
mangled_bases class no_bases = no_bases
mangled_bases class (bases t) = bases (mangled_trailer class t)

-- a statement within a class. The name of a class and what stands in its brackets are within the class around it, and its
-- body is within it alone. A function is within the class around it. `import *` stays: it stands outside of classes alone.
abbrev mutual
  pub mangled_step : List ℕ → Step → Step
  mangled_step class (Pass p) = Pass p
  mangled_step class (Break p) = Break p
  mangled_step class (Continue p) = Continue p
  mangled_step class (Return p e) = Return p (mangled_perhaps class e)
  mangled_step class (Assert p test message) = Assert p (mangled_tree class test) (mangled_perhaps class message)
  mangled_step class (Raise p e) = Raise p (mangled_tree class e)
  mangled_step class (ImportAll p path) = ImportAll p path
  mangled_step class (Import p path names) = Import p (mangled_path class path) (map (mangled_import class) names)
  mangled_step class (Assign p targets e) = Assign p (mangled_trees class targets) (mangled_tree class e)
  mangled_step class (Annotate p target annotation e) = Annotate p (mangled_tree class target) (mangled_tree class annotation) (mangled_perhaps class e)
  mangled_step class (Augment p target o e) = Augment p (mangled_tree class target) o (mangled_tree class e)
  mangled_step class (Evaluate p e) = Evaluate p (mangled_tree class e)
  mangled_step class (If p bs b) = If p (mangled_branches class bs) (mangled_else class b)
  mangled_step class (While p e b) = While p (mangled_tree class e) (mangled_steps class b)
  mangled_step class (For p targets source b) = For p (mangled_tree class targets) (mangled_tree class source) (mangled_steps class b)
  mangled_step class (With p context target b) = With p (mangled_tree class context) (mangled_perhaps class target) (mangled_steps class b)
  mangled_step class (Def p f) = Def p (mangled_body class f)
  mangled_step class (Class p name bs b) = Class p (mangled_name class name) (mangled_bases class bs) (mangled_steps (without_underscores name) b)

  pub mangled_steps : List ℕ → Steps → Steps
  mangled_steps class last = last
  mangled_steps class (next s ss) = next (mangled_step class s) (mangled_steps class ss)

  pub mangled_branches : List ℕ → Branches → Branches
  mangled_branches class no_branch = no_branch
  mangled_branches class (branch test b bs) = branch (mangled_tree class test) (mangled_steps class b) (mangled_branches class bs)

  pub mangled_else : List ℕ → Otherwise → Otherwise
  mangled_else class nothing_else = nothing_else
  mangled_else class (otherwise b) = otherwise (mangled_steps class b)

  pub mangled_body : List ℕ → Body → Body
  mangled_body class (Fun p name is_async params result_type b) = Fun p (mangled_name class name) is_async (map (mangled_parameter class) params) (mangled_perhaps class result_type) (mangled_steps class b)

-- the statements of a file stand outside of all classes
abbrev pub mangled_program : Steps → Steps
mangled_program = mangled_steps []

-- whether other statements stand in it
abbrev pub has_body : Step → Bool
has_body (Pass p) = false
has_body (Break p) = false
has_body (Continue p) = false
has_body (Return p e) = false
has_body (Assert p test message) = false
has_body (Raise p e) = false
has_body (ImportAll p path) = false
has_body (Import p path names) = false
has_body (Assign p targets e) = false
has_body (Annotate p target annotation e) = false
has_body (Augment p target o e) = false
has_body (Evaluate p e) = false
has_body (If p bs b) = true
has_body (While p e b) = true
has_body (For p targets source b) = true
has_body (With p context target b) = true
has_body (Def p f) = true
has_body (Class p name bs b) = true

-- whether a class stands in it
abbrev mutual
  pub has_class : Step → Bool
  has_class (Pass p) = false
  has_class (Break p) = false
  has_class (Continue p) = false
  has_class (Return p e) = false
  has_class (Assert p test message) = false
  has_class (Raise p e) = false
  has_class (ImportAll p path) = false
  has_class (Import p path names) = false
  has_class (Assign p targets e) = false
  has_class (Annotate p target annotation e) = false
  has_class (Augment p target o e) = false
  has_class (Evaluate p e) = false
  has_class (If p bs b) = branches_have_class bs || else_has_class b
  has_class (While p e b) = steps_have_class b
  has_class (For p targets source b) = steps_have_class b
  has_class (With p context target b) = steps_have_class b
  has_class (Def p f) = body_has_class f
  has_class (Class p name bs b) = true

  pub steps_have_class : Steps → Bool
  steps_have_class last = false
  steps_have_class (next s ss) = has_class s || steps_have_class ss

  pub branches_have_class : Branches → Bool
  branches_have_class no_branch = false
  branches_have_class (branch test b bs) = steps_have_class b || branches_have_class bs

  pub else_has_class : Otherwise → Bool
  else_has_class nothing_else = false
  else_has_class (otherwise b) = steps_have_class b

  pub body_has_class : Body → Bool
  body_has_class (Fun p name is_async params result_type b) = steps_have_class b
