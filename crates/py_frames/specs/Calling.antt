-- Words for the steps of attributes, indices and calls.
-- Internal: no rule of the language.
use Rattle.std.specs.Prelude.{ℕ, Bool, true, false, if◌then◌else◌, List, [], ◌∷◌, Option, Some, None, Result, Ok, Err}
use Rattle.amh_host.specs.declared.place.Place.{Place}
use Rattle.py_values.specs.declared.val.Val.{Val}
use Rattle.py_values.specs.declared.val.Val.TheVariants as val
use Rattle.py_values.specs.declared.val.ValueStop.{ValueStop}
use Rattle.py_values.specs.declared.op.Builtin.TheVariants as builtins
use Rattle.py_values.specs.declared.func.Func.{Func}
use Rattle.py_values.specs.declared.func.Code.{Code}
use Rattle.py_values.specs.declared.func.Code.TheVariants as code
use Rattle.py_heap.specs.Heaps.{Made, Seen, func_at}
use Rattle.py_heap.specs.Names.{new_func}
use Rattle.py_frames.specs.declared.request.Act.TheVariants.{Attribute, SetIndex}
use Rattle.py_frames.specs.declared.state.Halt.{Halt}
use Rattle.py_frames.specs.declared.state.Got.TheVariants.{Next}
use Rattle.py_frames.specs.declared.frame.Now.{Now}
use Rattle.py_frames.specs.declared.frame.Now.TheVariants.{Came}
use Rattle.py_frames.specs.Doing.{Doing, Known, then_do, choose}
use Rattle.py_frames.specs.Asking.{request, ask}
use Rattle.py_frames.specs.Values.{is_thing, built, method_of, is_plain_code, on_through, attribute_in_rounds}
use Rattle.py_frames.specs.Frames.{told}

-- the store is asked for an attribute; so many answers may still say that it is to be taken from another value
abbrev pub told_attribute : ℕ → Known → List ℕ → Place → Val → Doing
told_attribute n k name place y =
    then_do (ask k (request Attribute (y ∷ []) (name ∷ []) place)) (λ got. on_through got (λ v. attribute_in_rounds n k v name place))

-- the method that a function of a class becomes, and the heap with it
abbrev pub bound_func : Seen → Option Func → Val → Option Val → Result (Val × Made) ValueStop
bound_func s None v this = Ok (v, s.own)
bound_func s (Some f) v this = if is_plain_code f.code f.this then new_func s (method_of f this) else Ok (v, s.own)

abbrev pub bound_method : Seen → Val → Option Val → Result (Val × Made) ValueStop
bound_method s (val.Func f) this = bound_func s (func_at s f.0) (val.Func f) this
bound_method s v this = Ok (v, s.own)

-- whether `super()` gave a function
abbrev pub is_super : Code → Bool
is_super (code.Builtin builtins.Super) = true
is_super c = false

-- what a change of the heap gave, as the machine tells it
abbrev pub told_done : Result (Unit {0}) ValueStop → Place → Result Now Halt
told_done (Ok x) place = Ok (Came Next)
told_done (Err e) place = told (Err e) place

-- `x[i] = v`, before what follows
abbrev pub index_set : Known → Val → Val → Val → Place → Doing
index_set k x i v place = choose (is_thing x) (ask k (request SetIndex (x ∷ i ∷ v ∷ []) [] place)) (built k builtins.SetIndex (x ∷ i ∷ v ∷ []) place)
