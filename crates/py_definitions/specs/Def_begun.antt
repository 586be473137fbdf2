-- Parts of definitions: the parameters that are evaluated, and the ends of classes.
-- Internal: no rule of the language.
use Rattle.std.specs.Prelude.{ℕ, suc, List, [], ◌∷◌, Bool, true, false, Option, Some, None, Result}
use Rattle.amh_host.specs.declared.place.Place.{Place}
use Rattle.py_tree.specs.Programs.{steps_of}
use Rattle.py_tree.specs.Tree.{Tree, Perhaps, absent, present, Each, Argument, Positional, Starred, Keyword}
use Rattle.py_tree.specs.Steps.{Step, Parameter, Named, Star, Body, Fun}
use Rattle.py_values.specs.declared.val.Val.{Val}
use Rattle.py_values.specs.declared.val.ScopeId.{ScopeId}
use Rattle.py_heap.specs.Heaps.{Made}
use Rattle.py_frames.specs.declared.request.NamedVal.{NamedVal}
use Rattle.py_frames.specs.declared.state.Halt.{Halt}
use Rattle.py_frames.specs.declared.state.Got.{Got}
use Rattle.py_frames.specs.declared.state.Got.TheVariants.{Next}
use Rattle.py_frames.specs.declared.frame.Now.{Now}
use Rattle.py_frames.specs.declared.frame.DefFrame.{DefFrame}
use Rattle.py_frames.specs.declared.frame.DefFrame.TheVariants as def
use Rattle.py_frames.specs.declared.functions.Functions.{Functions}
use Rattle.py_frames.specs.declared.going.Going.{Going}
use Rattle.py_frames.specs.Doing.{Doing, Known, heap_seen, making, then_do, ◌>>=◌}
use Rattle.py_frames.specs.Parts.{arguments_from}
use Rattle.py_frames.specs.Values.{as_row}
use Rattle.py_frames.specs.Expressions.{list_of}
use Rattle.py_frames.specs.Call_frames.{elements_came}
use Rattle.py_frames.specs.Statements.{known, dropped, as_base, over_thing, known_class, class_bound, class_ended, class_here}
use Rattle.py_frames.specs.Def_frames.{function_bound, class_arguments, class_place, class_given}
use Rattle.py_frames.specs.Frames.{Moves, finish}

-- the default of a parameter, and its annotation
abbrev pub default_in : Parameter → Perhaps
default_in (Named p name a d) = d
default_in (Star p) = absent

abbrev pub annotation_in : Parameter → Perhaps
annotation_in (Named p name a d) = a
annotation_in (Star p) = absent

-- an expression by its number, where there is one
abbrev pub numbered : ℕ → Perhaps → Option (ℕ × Tree) → Option (ℕ × Tree)
numbered n absent others = others
numbered n (present t) others = Some (n, t)

-- the first default, and the first annotation, of parameters that are counted from a number on
abbrev pub first_default : ℕ → List Parameter → Option (ℕ × Tree)
first_default n [] = None
first_default n (p ∷ ps) = numbered n (default_in p) (first_default (suc n) ps)

abbrev pub first_annotation : ℕ → List Parameter → Option (ℕ × Tree)
first_annotation n [] = None
first_annotation n (p ∷ ps) = numbered n (annotation_in p) (first_annotation (suc n) ps)

-- The same as `GoesOn`, of a frame that was taken out, under which so many calls may still stand in one another.
unfoldable pub GoesUnder : ℕ → Functions → Made → Result Now Halt → Going → Going → ℕ → (Known → Doing) → Type 0
GoesUnder room functions frozen result before behind budget meant =
    Moves (steps_of functions.program) frozen result behind.frames behind.state budget
    (λ w. finish (steps_of functions.program) frozen room before.frames w (meant (known (steps_of functions.program) frozen room) w before.state))

-- the annotation of what a function gives
abbrev pub result_of : Body → Perhaps
result_of (Fun q name is_async params result body) = result

-- that annotation, and then the function is bound
abbrev pub result_then : Known → Place → Body → List Val → Doing
result_then k p (Fun q name is_async params result body) defaults = dropped k result (function_bound k p (Fun q name is_async params result body) defaults)

-- the expression of an argument
abbrev pub argument_value : Argument → Tree
argument_value (Positional t) = t
argument_value (Starred t) = t
argument_value (Keyword name t) = t

-- the body of a class, in the scope that was made for it
abbrev pub class_inside : Known → ScopeId → Option Val → List ℕ → List NamedVal → Doing → Place → Doing
class_inside k scope base name keywords body p = λ w s.
    then_do body (class_ended k s.here base name keywords p) w (record s { here = class_here s.here scope })

-- the one argument of a class is the list that a comprehension makes
abbrev pub class_list : Known → Step → Tree → Each → Doing
class_list k step t c = do
  l ← list_of k t c
  class_given k step (l ∷ []) []

-- a `*` argument of a class has come: its elements, and then the arguments behind it
abbrev pub class_starred : Known → Step → ℕ → List Val → List NamedVal → Val → Doing
class_starred k step n vs keywords v = do
  row ← as_row k v (class_place step)
  elements_came k (class_place step) vs keywords (arguments_from n (class_arguments step)) row (class_given k step)

-- the class of a body, over a thing
abbrev pub class_over : Known → ScopeId → Val → List ℕ → (keywords notes bindings : List NamedVal) → Place → Doing
class_over k scope base name keywords notes bindings p =
    making (λ s. known_class (heap_seen k s) (as_base base) scope) p
    (λ c. class_bound k true c base name keywords notes bindings p)

-- whether a body went to its end
abbrev pub is_next : Got → Bool
is_next Next = true
is_next got = false

-- whether a frame of a definition waits for more than a value
abbrev pub takes_more : DefFrame → Bool
takes_more (def.ClassBody s base keywords outer) = true
takes_more def.FileBody = true
takes_more f = false
