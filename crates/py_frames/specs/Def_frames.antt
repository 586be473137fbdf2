-- How the frames of definitions go on.
-- Internal: no rule of the language.
use Rattle.std.specs.Prelude.{ℕ, zero, suc, List, [], ◌∷◌, ◌++◌, Option}
use Rattle.amh_host.specs.declared.place.Place.{Place}
use Rattle.py_tree.specs.Programs.{step_of}
use Rattle.py_tree.specs.Tree.{Call, Arguments, no_argument}
use Rattle.py_tree.specs.Steps.{Step, Def, Class, Body, Fun, Parameter, Bases, bases}
use Rattle.py_values.specs.declared.val.Val.{Val}
use Rattle.py_heap.specs.Names.{new_func}
use Rattle.py_frames.specs.declared.request.NamedVal.{NamedVal}
use Rattle.py_frames.specs.declared.state.Here.{Here}
use Rattle.py_frames.specs.declared.state.Got.{Got}
use Rattle.py_frames.specs.declared.state.Got.TheVariants.{Next}
use Rattle.py_frames.specs.declared.frame.DefFrame.{DefFrame}
use Rattle.py_frames.specs.declared.frame.DefFrame.TheVariants as def
use Rattle.py_frames.specs.Doing.{Doing, Known, heap_seen, on_value, on_next, came, making}
use Rattle.py_frames.specs.Own.{steps_names}
use Rattle.py_frames.specs.Parts.{arguments_from}
use Rattle.py_frames.specs.Values.{bind}
use Rattle.py_frames.specs.Expressions.{seen_from}
use Rattle.py_frames.specs.Statements.{defaults_then, annotations_then, dropped, new_function, base_of, class_begun, class_ended, run_all}
use Rattle.py_frames.specs.Call_frames.{argument_came, elements_came}
use Rattle.py_frames.specs.Whole.{body_ended}

-- ---- functions

abbrev pub parameters_from : ℕ → List Parameter → List Parameter
parameters_from zero ps = ps
parameters_from (suc n) [] = []
parameters_from (suc n) (p ∷ ps) = parameters_from n ps

-- the defaults are there: the annotations of the parameters from one on, and then the function is bound
abbrev pub function_bound : Known → Place → Body → List Val → Doing
function_bound k p (Fun q name is_async params result body) defaults =
    making (λ s. new_func (heap_seen k s) (new_function q defaults (seen_from (heap_seen k s) s.here.scope))) p (λ v. bind k name v p (came Next))

abbrev pub annotated_from : Known → Place → ℕ → Body → List Val → Doing
annotated_from k p n (Fun q name is_async params result body) defaults =
    annotations_then k (parameters_from n params) (dropped k result (function_bound k p (Fun q name is_async params result body) defaults))

abbrev pub defaults_from : Known → Place → ℕ → Body → List Val → Doing
defaults_from k p n (Fun q name is_async params result body) vs =
    defaults_then k vs (parameters_from n params) (annotated_from k p 0 (Fun q name is_async params result body))

abbrev pub default_came : Known → ℕ → Step → List Val → Doing
default_came k n (Def p f) vs = defaults_from k p n f vs
default_came k n step vs = came Next

abbrev pub annotation_came : Known → ℕ → Step → List Val → Doing
annotation_came k n (Def p f) defaults = annotated_from k p n f defaults
annotation_came k n step defaults = came Next

abbrev pub result_came : Known → Step → List Val → Doing
result_came k (Def p f) defaults = function_bound k p f defaults
result_came k step defaults = came Next

-- ---- classes

abbrev pub base_arguments : Bases → Arguments
base_arguments (bases (Call gs)) = gs
base_arguments b = no_argument

abbrev pub class_arguments : Step → Arguments
class_arguments (Class p name b body) = base_arguments b
class_arguments step = no_argument

abbrev pub class_place : Step → Place
class_place (Class p name b body) = p
class_place step = record { line = 0; col = 0 }

-- the arguments of a class are there
abbrev pub class_given : Known → Step → List Val → List NamedVal → Doing
class_given k (Class p name b body) vs keywords = class_begun k (base_of vs) name keywords (steps_names body) (run_all k body) p
class_given k step vs keywords = came Next

abbrev pub class_left : Known → Step → Option Val → List NamedVal → Here → Got → Doing
class_left k (Class p name b body) base keywords outer got = class_ended k outer base name keywords p got
class_left k step base keywords outer got = came Next

abbrev pub class_told : Known → Step → Val → Doing
class_told k (Class p name b body) v = bind k name v p (came Next)
class_told k step v = came Next

-- ---- what a frame does

abbrev pub def_value_goes : Known → DefFrame → Val → Doing
def_value_goes k (def.Default s n vs) v = default_came k (suc n) (step_of s) (vs ++ v ∷ [])
def_value_goes k (def.Annotation s n vs) v = annotation_came k (suc n) (step_of s) vs
def_value_goes k (def.ResultType s vs) v = result_came k (step_of s) vs
def_value_goes k (def.ClassArgument s n vs keywords) v =
    argument_came k (class_place (step_of s)) vs keywords (arguments_from n (class_arguments (step_of s))) v (class_given k (step_of s))
def_value_goes k (def.ClassSpread s n vs keywords) v =
    elements_came k (class_place (step_of s)) vs keywords (arguments_from n (class_arguments (step_of s))) v (class_given k (step_of s))
def_value_goes k (def.ClassList s) v = class_given k (step_of s) (v ∷ []) []
def_value_goes k (def.ClassTold s) v = class_told k (step_of s) v
def_value_goes k (def.ClassBody s base keywords outer) v = came Next
def_value_goes k def.FileBody v = came Next

abbrev pub def_goes : Known → DefFrame → Got → Doing
def_goes k (def.ClassBody s base keywords outer) got = class_left k (step_of s) base keywords outer got
def_goes k def.FileBody got = on_next got (body_ended k)
def_goes k f got = on_value got (def_value_goes k f)
