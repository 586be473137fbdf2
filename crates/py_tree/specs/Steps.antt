-- The tree of a program, without where it lies in memory.
-- Source: Python reference 7, Simple statements, and 8, Compound statements.
use Rattle.std.specs.Prelude.{ℕ, Bool, List, [], ◌∷◌, Option, Some, None}
use Rattle.amh_host.specs.declared.place.Place.{Place}
use Rattle.py_tree.specs.declared.expr.Operator.{Operator}
use Rattle.py_tree.specs.Tree.{Tree, Trees, Perhaps, Trailer}

-- an imported name, and the name that it is bound to where `as` gives one
pub record Import_name : Type 0 where
  pub place : Place
  pub name : List ℕ
  pub bound : Option (List ℕ)

-- a parameter, or the `*` behind which arguments go by keyword
pub data Parameter : Type 0 where
  Named : Place → (name : List ℕ) → (annotation default_value : Perhaps) → Parameter
  Star : Place → Parameter

-- the arguments of a class, where it has brackets
pub data Bases : Type 0 where
  no_bases : Bases
  bases : Trailer → Bases

mutual
  -- a statement, with the place of its first token
  pub data Step : Type 0 where
    Pass : Place → Step
    Break : Place → Step
    Continue : Place → Step
    Return : Place → Perhaps → Step
    Assert : Place → Tree → Perhaps → Step
    Raise : Place → Tree → Step
    ImportAll : Place → List (List ℕ) → Step
    Import : Place → List (List ℕ) → List Import_name → Step
    Assign : Place → Trees → Tree → Step
    Annotate : Place → (target annotation : Tree) → Perhaps → Step
    Augment : Place → Tree → Operator → Tree → Step
    Evaluate : Place → Tree → Step
    If : Place → Branches → Otherwise → Step
    While : Place → Tree → Steps → Step
    For : Place → (targets source : Tree) → Steps → Step
    With : Place → Tree → Perhaps → Steps → Step
    Def : Place → Body → Step
    Class : Place → List ℕ → Bases → Steps → Step

  -- statements one after another
  pub data Steps : Type 0 where
    last : Steps
    next : Step → Steps → Steps

  -- `if` and each `elif`: a test, and what is carried out where it holds
  pub data Branches : Type 0 where
    no_branch : Branches
    branch : Tree → Steps → Branches → Branches

  -- the block of `else`, or none
  pub data Otherwise : Type 0 where
    nothing_else : Otherwise
    otherwise : Steps → Otherwise

  -- a function
  pub data Body : Type 0 where
    Fun : Place → (name : List ℕ) → (is_async : Bool) → List Parameter → (result_type : Perhaps) → Steps → Body

abbrev pub steps : List Step → Steps
steps [] = last
steps (s ∷ ss) = next s (steps ss)

abbrev pub branches : List (Tree × Steps) → Branches
branches [] = no_branch
branches (b ∷ bs) = branch b.0 b.1 (branches bs)

abbrev pub else_of : Option Steps → Otherwise
else_of None = nothing_else
else_of (Some b) = otherwise b

abbrev pub bases_of : Option Trailer → Bases
bases_of None = no_bases
bases_of (Some t) = bases t
