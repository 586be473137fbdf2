-- What is elaborated: the global that the words name, or else what is simulated, or else the global `top`, whatever its `elaborate` gives,
-- and then its submodules. (Amaranth language guide 0.5, "Elaboration", "Submodules". What the top is, that `elaborate` is asked again of
-- what it gives, and how many submodules there may be, is this project's own rule.)
use Rattle.std.specs.Prelude.{ℕ, zero, suc, nat_lt, ◌-◌, Bool, true, false, if◌then◌else◌, List, [], ◌∷◌, Option, Some, None, codes}
use Rattle.lists.specs.Texts.{text_eq}
use Rattle.py_values.specs.declared.val.Val.{Val}
use Rattle.py_values.specs.declared.val.Val.TheVariants as val
use Rattle.py_values.specs.declared.val.ObjId.{ObjId}
use Rattle.py_values.specs.declared.func.Func.{Func}
use Rattle.py_values.specs.declared.func.Code.{Code}
use Rattle.py_values.specs.declared.func.Code.TheVariants as code
use Rattle.py_heap.specs.declared.objects.Inherited.{Inherited}
use Rattle.py_heap.specs.declared.objects.Inherited.TheVariants.{Found, Thing, Nowhere}
use Rattle.py_heap.specs.Heaps.{Seen, row_at, func_at}
use Rattle.py_heap.specs.Objects.{attributes, attribute_in, inherited, first_in}
use Rattle.py_frames.specs.declared.request.Answer.TheVariants as answer
use Rattle.py_frames.specs.declared.request.Cause.TheVariants.{Raised, Limit}
use Rattle.elab_acts.specs.declared.tops.Calling.{Calling}
use Rattle.elab_store.specs.declared.hierarchy.NodeOf.{NodeOf}
use Rattle.elab_store.specs.declared.hierarchy.Waiting.{Waiting}
use Rattle.elab_store.specs.Hierarchies.{first_waiting, thing_waiting, node_taken, wraps_taken, root_wrapped, top_entered}
use Rattle.elab_store.specs.Stores.{with_root, with_object, module_of, node_in, inner_of, wraps_in, Stored, Held, Answered, refused, given, kept_of}

-- ---- `elaborate` of an object: what is called, and whether with the object first

-- a function that `def` made is bound to no object yet
abbrev pub is_unbound : Code → Option Val → Bool
is_unbound (code.Def p) None = true
is_unbound c this = false

abbrev pub is_method : Option Func → Bool
is_method None = false
is_method (Some f) = is_unbound f.code f.this

-- a function of a class gets the object first
abbrev pub method_calling : Seen → ObjId → Val → Calling
method_calling s o (val.Func f) = record { callee = val.Func f; first = if is_method (func_at s f.0) then Some o else None }
method_calling s o v = record { callee = v; first = None }

abbrev pub found_calling : Seen → ObjId → Inherited → Option Calling
found_calling s o (Found v c) = Some (method_calling s o v)
found_calling s o (Thing h) = None
found_calling s o Nowhere = None

abbrev pub class_calling : Seen → ObjId → Val → Option Calling
class_calling s o (val.Class c) = found_calling s o (inherited s (codes "elaborate") c)
class_calling s o v = None

-- what an object itself has comes before what its class has
abbrev pub object_calling : Seen → ObjId → Option Val → Option Calling
object_calling s o (Some v) = Some (record { callee = v; first = None })
object_calling s o None = class_calling s o (first_in (row_at s o.0))

-- an object with `elaborate` is elaboratable
abbrev pub elaborate_of : Seen → Val → Option Calling
elaborate_of s (val.Object o) = object_calling s o (attribute_in s (codes "elaborate") (attributes (row_at s o.0)))
elaborate_of s v = None

-- ---- globals

abbrev pub global : List ℕ → List Val → List (List ℕ) → Option Val
global name (v ∷ vs) (n ∷ ns) = if text_eq n name then Some v else global name vs ns
global name vs ns = None

-- ---- what comes of it

-- each gets None for the platform
abbrev pub call_args : Option ObjId → List Val
call_args None = val.None ∷ []
call_args (Some o) = val.Object o ∷ val.None ∷ []

-- else `elaborate` is called; what is neither raises where the request stands
abbrev pub top_called : Val → Option Calling → Held → Answered
top_called v (Some c) h = record { answer = answer.Call c.callee (call_args c.first); held = record h { store = with_object v h.store } }
top_called v None h = refused Raised h

-- below the top nothing is noted of an object that is asked
abbrev pub below_called : Option Calling → Held → Answered
below_called (Some c) h = record { answer = answer.Call c.callee (call_args c.first); held = h }
below_called None h = refused Raised h

-- ---- submodules: from the top on, each before those that were added to it, in the order in which they were added

-- a design has so many at most, which stand so deep in one another
abbrev pub most_submodules : ℕ
most_submodules = 4096

abbrev pub deepest_submodule : ℕ
deepest_submodule = 64

abbrev pub store_with_node : NodeOf → Stored → Stored
store_with_node o store = record store { hierarchy = node_taken o store.hierarchy }

abbrev pub with_node : NodeOf → Held → Held
with_node o h = record h { store = store_with_node o h.store }

-- wrappers stand before what they wrap, and do not count as submodules
abbrev pub store_with_wraps : List ℕ → Stored → Stored
store_with_wraps bys store = record store { hierarchy = wraps_taken bys store.hierarchy }

abbrev pub with_wraps : List ℕ → Held → Held
with_wraps bys h = record h { store = store_with_wraps bys h.store }

-- a module or a memory is taken, and the others follow
abbrev pub node_or_called : (Held → Answered) → Option NodeOf → Option Calling → Held → Answered
node_or_called others (Some o) c h = others (with_node o h)
node_or_called others None c h = below_called c h

-- of a value the wrappers are taken, and then what stands within
abbrev pub value_walked : Seen → (Held → Answered) → Val → Held → Answered
value_walked s others v h = node_or_called others (node_in (kept_of h.store (inner_of h.store v))) (elaborate_of s (inner_of h.store v)) (with_wraps (wraps_in h.store v) h)

abbrev pub thing_walked : Seen → (Held → Answered) → Option Val → Held → Answered
thing_walked s others None h = refused Raised h
thing_walked s others (Some v) h = value_walked s others v h

abbrev pub next_walked : Seen → (Held → Answered) → Option Waiting → Held → Answered
next_walked s others None h = given val.None h
next_walked s others (Some w) h = if nat_lt deepest_submodule w.depth then refused Limit h else thing_walked s others (thing_waiting h.store.hierarchy) h

abbrev pub last_walked : Option Waiting → Held → Answered
last_walked None h = given val.None h
last_walked (Some w) h = refused Limit h

-- what waits first is elaborated, and so on, where so many more may come
unfoldable pub walked : ℕ → Seen → Held → Answered
walked zero s h = last_walked (first_waiting h.store.hierarchy) h
walked (suc n) s h = next_walked s (walked n s) (first_waiting h.store.hierarchy) h

abbrev pub walk : Seen → Held → Answered
walk s h = walked (most_submodules - h.store.hierarchy.taken) s h

-- ---- what is elaborated comes to a module

abbrev pub store_entered : ℕ → Stored → Stored
store_entered m store = record (with_root m store) { hierarchy = top_entered m store.hierarchy }

abbrev pub with_top : ℕ → Held → Held
with_top m h = record h { store = store_entered m h.store }

abbrev pub top_taken : Seen → Val → Option ℕ → Option Calling → Held → Answered
top_taken s v (Some m) c h = walk s (with_top m h)
top_taken s v None c h = top_called v c h

-- the top may be wrapped, and so may what its `elaborate` gives
abbrev pub store_with_root_wraps : List ℕ → Stored → Stored
store_with_root_wraps bys store = record store { hierarchy = root_wrapped bys store.hierarchy }

abbrev pub with_root_wraps : List ℕ → Held → Held
with_root_wraps bys h = record h { store = store_with_root_wraps bys h.store }

abbrev pub elaborated : Seen → Val → Held → Answered
elaborated s v h = let w = inner_of h.store v in top_taken s w (module_of (kept_of h.store w)) (elaborate_of s w) (with_root_wraps (wraps_in h.store v) h)

abbrev pub body_taken : Seen → Option Val → Held → Answered
body_taken s None h = refused Raised h
body_taken s (Some v) h = elaborated s v h

-- the argument of the `Simulator` call goes before the global
abbrev pub top_of : (subject global : Option Val) → Option Val
top_of (Some v) o = Some v
top_of None o = o

-- where the words name a global, nothing else is the top
abbrev pub named_top : (name : Option (List ℕ)) (subject : Option Val) → List Val → List (List ℕ) → Option Val
named_top (Some name) subject vals names = global name vals names
named_top None subject vals names = top_of subject (global (codes "top") vals names)

abbrev pub body_ended : Option (List ℕ) → Seen → List Val → List (List ℕ) → Held → Answered
body_ended name s vals names h = body_taken s (named_top name h.store.simulation.subject vals names) h

-- where the top is a module already, it is a submodule that was asked
abbrev pub ended_by : Option ℕ → Seen → Val → Held → Answered
ended_by None s v h = elaborated s v h
ended_by (Some root) s v h = value_walked s (walk s) v h

abbrev pub elaborate_ended : Seen → List Val → Held → Answered
elaborate_ended s (v ∷ vs) h = ended_by h.store.top.root s v h
elaborate_ended s [] h = refused Raised h
