-- A whole program: what it asks after a list of answers, or how it ends, and at what cost.
-- Source: Python reference 9.1, Complete Python programs; requests, units and the depth of calls: own rules (docs/RULES.md).
use Rattle.std.specs.Prelude.{ℕ, ◌+◌, false, List, [], ◌∷◌, ◌++◌, map, slice_get, Option, Some, None, codes}
use Rattle.amh_host.specs.declared.place.Place.{Place}
use Rattle.py_tree.specs.Steps.{Steps}
use Rattle.py_values.specs.declared.func.Func.{Func}
use Rattle.py_values.specs.declared.func.Scope.{Scope}
use Rattle.py_values.specs.declared.func.Code.TheVariants as code
use Rattle.py_values.specs.declared.op.Builtin.{Builtin}
use Rattle.py_values.specs.declared.op.Builtin.TheVariants as builtins
use Rattle.py_heap.specs.Heaps.{Made, nothing}
use Rattle.py_heap.specs.Names.{bindings_at}
use Rattle.py_frames.specs.declared.request.Act.TheVariants as act
use Rattle.py_frames.specs.declared.request.Answer.{Answer}
use Rattle.py_frames.specs.declared.state.State.{State}
use Rattle.py_frames.specs.declared.state.Here.{Here}
use Rattle.py_frames.specs.declared.state.Halt.TheVariants as halt
use Rattle.py_frames.specs.Doing.{World, Outcome, Halts, Doing, Known, heap_seen, and_then}
use Rattle.py_frames.specs.Asking.{request, ask}
use Rattle.py_frames.specs.Values.{builtin_names, named_vals, named_names}
use Rattle.py_frames.specs.Statements.{run_all, known, bound_names}

-- calls may stand in one another 200 deep
abbrev pub deepest : ℕ
deepest = 200

-- the builtin functions of each program: those that have names, in their order, and the two that are imported
abbrev pub builtin_func : Builtin → Func
builtin_func b = record { code = code.Builtin b; this = None; home = None; defaults = []; scope = None }

abbrev pub builtin_funcs : List Func
builtin_funcs = map (λ (b : List ℕ × Builtin). builtin_func b.1) builtin_names ++ builtin_func builtins.CeilLog2 ∷ builtin_func builtins.BitsFor ∷ []

-- the module's scope, of which no name is its own alone
abbrev pub module_scope : Scope
module_scope = record { enclosing = None; is_class = false; own = []; bindings = [] }

-- the heap of a program before its body: the builtins, the module's name, and the module's scope
abbrev pub first_heap : Made
first_heap = record nothing { texts = codes "__main__" ∷ []; funcs = builtin_funcs; scopes = module_scope ∷ [] }

abbrev pub first_here : Here
first_here = record { scope = record { 0 = 0 }; first = None; body = None; notes = []; room = deepest }

abbrev pub first_state : State
first_state = record { heap = first_heap; here = first_here; used = 0; bound = 0; taken = 0 }

abbrev pub origin : Place
origin = record { line = 1; col = 1 }

-- the end of the body is told with the module's names
abbrev pub body_ended : Known → Doing
body_ended k = λ w s. ask k (request act.BodyEnd (named_vals (bound_names (bindings_at (heap_seen k s) 0))) (named_names (bound_names (bindings_at (heap_seen k s) 0))) origin) w s

abbrev pub body : Steps → Doing
body program = let k = known program nothing deepest in and_then (run_all k program) (body_ended k)

-- the first answer begins the body
abbrev pub begun : Doing → Option Answer → Doing
begun m None = λ w s. Halts halt.NoMemory s
begun m (Some a) = λ w s. m w (record s { taken = s.taken + 1 })

-- What a program comes to, by all answers and a budget. Its cost is in the state.
abbrev pub ask_program : Steps → World → Outcome
ask_program program w = begun (body program) (slice_get w.answers 0) w first_state
