-- What is proved of private names.
-- Source: Python reference 6.2.1, Identifiers (Names), "Private name mangling".
use Rattle.std.specs.Prelude.{◌≡◌, ℕ, false, List, [], ◌∷◌, codes}
use Rattle.amh_host.specs.declared.place.Place.{Place}
use Rattle.py_tree.specs.Tree.{Tree, Name, Trailed, none, some, absent, present, no_trailer, trailer, Attribute, Call, Arguments, no_argument, argument, Positional, Keyword}
use Rattle.py_tree.specs.Steps.{Steps, last, next, Return, Assign, Def, Class, Fun, Named, no_bases, bases}
use Rattle.private_names.specs.Names.{mangled_name, without_underscores}
use Rattle.private_names.specs.Statements.{mangled_program, steps_have_class}

-- what a name becomes in the body of a class of that name
abbrev pub named_in : List ℕ → List ℕ → List ℕ
named_in class name = mangled_name (without_underscores class) name

-- a program in which no class stands is as it was
abbrev pub NoClassStays : Type 0
NoClassStays = (ss : Steps) → steps_have_class ss ≡ false → mangled_program ss ≡ ss

-- names that CPython 3.11 rewrites
abbrev pub PrivateNames : Type 0
PrivateNames =
    (named_in (codes "A") (codes "__x") ≡ codes "_A__x")
    × (named_in (codes "_A") (codes "__x") ≡ codes "_A__x")
    × (named_in (codes "__A_") (codes "__x_") ≡ codes "_A___x_")
    × (named_in (codes "A") (codes "___x") ≡ codes "_A___x")

-- names that it leaves
abbrev pub OtherNames : Type 0
OtherNames =
    (named_in (codes "A") (codes "_x") ≡ codes "_x")
    × (named_in (codes "A") (codes "__x__") ≡ codes "__x__")
    × (named_in (codes "A") (codes "__") ≡ codes "__")
    × (named_in (codes "A") (codes "____") ≡ codes "____")
    × (named_in (codes "_") (codes "__x") ≡ codes "__x")
    × (named_in (codes "___") (codes "__x") ≡ codes "__x")

-- a program of which CPython 3.11 makes the same names
--     class _C(__B, __k=__v):
--         def __f(self, __p):
--             return self.__q(__kw=__p)
--         class __D:
--             __y = __x
abbrev pub one_place : Place
one_place = record { line = 1; col = 1 }

abbrev pub one_name : List ℕ → Tree
one_name = Name one_place

abbrev pub call_of : List ℕ → Tree → Arguments
call_of keyword e = argument (Keyword keyword e) no_argument

-- the class with the names of its function, parameter and attribute, of its class, and of what that binds and reads
abbrev pub classes : List ℕ → List ℕ → List ℕ → List ℕ → List ℕ → List ℕ → Steps
classes f param attribute class bound read =
    next (Class one_place (codes "_C") (bases (Call (argument (Positional (one_name (codes "__B"))) (call_of (codes "__k") (one_name (codes "__v"))))))
    (next (Def one_place (Fun one_place f false (Named one_place (codes "self") absent absent ∷ Named one_place param absent absent ∷ []) absent
    (next (Return one_place (present (Trailed one_place (one_name (codes "self")) (trailer (Attribute attribute) (trailer (Call (call_of (codes "__kw") (one_name param))) no_trailer))))) last)))
    (next (Class one_place class no_bases (next (Assign one_place (some (one_name bound) none) (one_name read)) last)) last))) last

abbrev pub ClassesAreRewritten : Type 0
ClassesAreRewritten =
    mangled_program (classes (codes "__f") (codes "__p") (codes "__q") (codes "__D") (codes "__y") (codes "__x"))
    ≡ classes (codes "_C__f") (codes "_C__p") (codes "_C__q") (codes "_C__D") (codes "_D__y") (codes "_D__x")
