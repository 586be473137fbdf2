-- Words for the steps of calls.
-- Internal: no rule of the language.
use Rattle.std.specs.Prelude.{Bool, true, false, List, [], ◌∷◌, length, Option, Some, None}
use Rattle.amh_host.specs.declared.place.Place.{Place}
use Rattle.py_tree.specs.Steps.{Steps}
use Rattle.py_values.specs.declared.val.Val.{Val}
use Rattle.py_values.specs.declared.val.Val.TheVariants as val
use Rattle.py_values.specs.declared.val.Hw.{Hw}
use Rattle.py_values.specs.declared.val.FuncId.{FuncId}
use Rattle.py_values.specs.declared.op.Builtin.{Builtin}
use Rattle.py_values.specs.declared.op.Builtin.TheVariants as builtins
use Rattle.py_values.specs.declared.func.Func.{Func}
use Rattle.py_values.specs.declared.func.Code.{Code}
use Rattle.py_values.specs.declared.func.Code.TheVariants as code
use Rattle.py_frames.specs.declared.request.NamedVal.{NamedVal}
use Rattle.py_frames.specs.declared.request.Cause.TheVariants.{Raised}
use Rattle.py_callables.specs.declared.call_kind.CallKind.{CallKind}
use Rattle.py_callables.specs.declared.call_kind.CallKind.TheVariants as kind
use Rattle.py_callables.specs.declared.call_kind.Callable.{Callable}
use Rattle.py_callables.specs.declared.call_kind.Callable.TheVariants as callable
use Rattle.py_frames.specs.Doing.{Doing, Known, give, stop}
use Rattle.py_frames.specs.Functions.{function_at}
use Rattle.py_frames.specs.Async.{is_async_body}
use Rattle.py_frames.specs.Values.{without_arguments, without_keywords, super_called, init_this, length_called, magnitude_called, gone_over, with_this, nothing_begun, builtin_called}

-- how a builtin is called
abbrev pub kind_of : Builtin → CallKind
kind_of builtins.Super = kind.Super
kind_of builtins.InitThing = kind.InitThing
kind_of builtins.InitNothing = kind.InitNothing
kind_of builtins.Print = kind.Print
kind_of builtins.Len = kind.Len
kind_of builtins.Abs = kind.Abs
kind_of b = kind.Plain

abbrev pub called_by_kind : Known → CallKind → Builtin → Option Val → List Val → List NamedVal → Place → Doing
called_by_kind k kind.Super b this args keywords place = without_arguments args keywords place (super_called k this place)
called_by_kind k kind.InitThing b this args keywords place = init_this k this args keywords place
called_by_kind k kind.InitNothing b this args keywords place = without_keywords keywords place (nothing_begun (with_this this args) place)
called_by_kind k kind.Print b this args keywords place = give val.None
called_by_kind k kind.Len b this args keywords place = without_keywords keywords place (length_called k (with_this this args) place)
called_by_kind k kind.Abs b this args keywords place = without_keywords keywords place (magnitude_called k (with_this this args) place)
called_by_kind k kind.Plain b this args keywords place = without_keywords keywords place (gone_over k b (length (with_this this args)) [] (with_this this args) place)

-- what a call of a function is: of none, of an `async` one, of one with a body, of a builtin
abbrev pub callable_body : Bool → Callable
callable_body true = callable.Async
callable_body false = callable.Body

abbrev pub callable_code : Steps → Code → Option Val → Callable
callable_code program (code.Def p) this = callable_body (is_async_body (function_at p program))
callable_code program (code.Builtin b) this = callable.Builtin b this

abbrev pub callable_of : Steps → Option Func → Callable
callable_of program None = callable.Missing
callable_of program (Some f) = callable_code program f.code f.this

abbrev pub called_as : Known → Callable → FuncId → List Val → List NamedVal → Place → Doing
called_as k callable.Missing id args keywords place = stop Raised place
called_as k callable.Async id args keywords place = stop Raised place
called_as k callable.Body id args keywords place = k.call (val.Func id) args keywords place
called_as k (callable.Builtin b this) id args keywords place = builtin_called k b this args keywords place

-- neither arguments in order nor by keyword
abbrev pub no_keywords : List NamedVal → Bool
no_keywords [] = true
no_keywords (x ∷ xs) = false

abbrev pub no_arguments : List Val → List NamedVal → Bool
no_arguments [] keywords = no_keywords keywords
no_arguments (v ∷ vs) keywords = false

-- one argument in order
abbrev pub is_one : List Val → Bool
is_one (v ∷ []) = true
is_one vs = false

-- the thing that is the one argument
abbrev pub one_thing : List Val → Option Hw
one_thing (val.Hw h ∷ []) = Some h
one_thing vs = None
