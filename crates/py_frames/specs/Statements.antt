-- What statements mean, and what a call of a function does.
-- Source: Python reference 7, Simple statements, and 8, Compound statements; units and requests: own rules (docs/RULES.md).
use Rattle.std.specs.Prelude.{ℕ, zero, suc, ◌+◌, ◌&&◌, ◌||◌, not, Bool, true, false, List, [], ◌∷◌, ◌++◌, map, Option, Some, None, Result, Ok, Err, codes}
use Rattle.amh_host.specs.declared.place.Place.{Place}
use Rattle.py_tree.specs.Tree.{Tree, Name, Trailed, Trees, none, some, Perhaps, absent, present, Trailers, no_trailer, trailer, Trailer, Attribute, Call, CallOf, Index, Slice}
use Rattle.py_tree.specs.Steps.{Step, Pass, Break, Continue, Return, Assert, Raise, ImportAll, Import, Assign, Annotate, Augment, Evaluate, If, While, For, With, Def, Class, Steps, last, next, Branches, no_branch, branch, Otherwise, nothing_else, otherwise, Body, Fun, Import_name, Parameter, Named, Star, Bases, no_bases, bases}
use Rattle.py_values.specs.declared.val.Val.{Val}
use Rattle.py_values.specs.declared.val.Val.TheVariants as val
use Rattle.py_values.specs.declared.val.ScopeId.{ScopeId}
use Rattle.py_values.specs.declared.val.ValueStop.{ValueStop}
use Rattle.py_values.specs.declared.op.PyOp.{PyOp}
use Rattle.py_values.specs.declared.op.PyOp.TheVariants as op
use Rattle.py_values.specs.declared.op.Builtin.{Builtin}
use Rattle.py_values.specs.declared.op.Builtin.TheVariants as builtins
use Rattle.py_values.specs.declared.func.Func.{Func}
use Rattle.py_values.specs.declared.func.Code.{Code}
use Rattle.py_values.specs.declared.func.Code.TheVariants as code
use Rattle.py_values.specs.declared.func.Scope.{Scope}
use Rattle.py_heap.specs.declared.objects.Inherited.{Inherited}
use Rattle.py_heap.specs.declared.objects.Inherited.TheVariants as inherited
use Rattle.py_heap.specs.Heaps.{Made, Seen, seen, func_at}
use Rattle.py_values.specs.Bindings.{Binding}
use Rattle.py_heap.specs.Names.{new_func, new_scope, scope_at, scope_bound}
use Rattle.py_heap.specs.Objects.{inherited as inherits, new_class}
use Rattle.py_operators.specs.Elements.{element}
use Rattle.py_frames.specs.declared.request.Act.TheVariants as act
use Rattle.py_frames.specs.declared.request.NamedVal.{NamedVal}
use Rattle.py_frames.specs.declared.request.Cause.TheVariants.{Raised, Limit, Spent, Assert as Assertion}
use Rattle.py_frames.specs.declared.state.Here.{Here}
use Rattle.py_frames.specs.declared.state.ClassBody.{ClassBody}
use Rattle.py_frames.specs.declared.state.Got.{Got}
use Rattle.py_frames.specs.declared.state.Got.TheVariants.{Value, Bound, Through, Next, Broke, Continued, Returned}
use Rattle.py_frames.specs.declared.frame.Purpose.{Purpose}
use Rattle.py_frames.specs.declared.frame.Purpose.TheVariants.{Plain, Named as Named_by}
use Rattle.py_frames.specs.Doing.{Doing, Callee, Known, heap_seen, ◌>>=◌, and_then, then_do, came, give, stop, choose, spend, spend_each, making}
use Rattle.py_frames.specs.Asking.{request, ask, most}
use Rattle.py_frames.specs.Own.{is_simple, steps_names, function_names, imported_as}
use Rattle.py_frames.specs.Functions.{function_at, parameters_met, named_val}
use Rattle.py_frames.specs.Parts.{operator_of, place_of, trailer_count}
use Rattle.py_frames.specs.Values.{class_word, bind, bind_all, read, truth_of, is_thing, operated, built, attribute, store_attribute, indexed, store_index, as_row, on_names, named_vals, with_this, sign_of}
use Rattle.py_frames.specs.Expressions.{value_of, perhaps_value, arguments_then, assign, trailed_one, list_of, on_element, if_row, row_size, of_size, seen_from, where_last, reach}

-- ---- imports

-- a module by its names, with a dot between each two
abbrev pub with_dots : List (List ℕ) → List ℕ
with_dots [] = []
with_dots (n ∷ ns) = 46 ∷ n ++ with_dots ns

abbrev pub dotted : List (List ℕ) → List ℕ
dotted [] = []
dotted (n ∷ ns) = n ++ with_dots ns

abbrev pub imported : Known → List ℕ → Place → List Import_name → Doing
imported k path p [] = came Next
imported k path p (x ∷ xs) = do
  v ← ask k (request act.Import [] (path ∷ x.name ∷ []) p)
  bind k (imported_as x.name x.bound) v p (imported k path p xs)

abbrev pub all_asked : Known → List ℕ → Place → Doing
all_asked k path p =
    then_do (ask k (request act.Import [] (path ∷ codes "*" ∷ []) p)) (λ got. on_names got (λ names. bind_all k names p (came Next)))

-- whether a scope is the module's, which nothing encloses
abbrev pub is_outermost : Option ScopeId → Bool
is_outermost None = true
is_outermost (Some id) = false

abbrev pub is_module : Option Scope → Bool
is_module None = false
is_module (Some scope) = is_outermost scope.enclosing

abbrev pub stands_in_module : Seen → ScopeId → Bool
stands_in_module s here = is_module (scope_at s here.0)

-- all names of a module: in a function or a class body it raises, where Python takes no file with it
abbrev pub all_imported : Known → List ℕ → Place → Doing
all_imported k path p = λ w s. choose (stands_in_module (heap_seen k s) s.here.scope) (all_asked k path p) (stop Raised p) w s

-- ---- assignments

-- a call that is the whole right side has the name of its first target, where that is a name or an attribute
abbrev pub trailer_purpose : Trailer → Trailers → Purpose
trailer_purpose (Attribute n) no_trailer = Named_by n
trailer_purpose t no_trailer = Plain
trailer_purpose t (trailer u us) = trailer_purpose u us

abbrev pub trailers_purpose : Trailers → Purpose
trailers_purpose no_trailer = Plain
trailers_purpose (trailer t ts) = trailer_purpose t ts

abbrev pub target_purpose : Tree → Purpose
target_purpose (Name p n) = Named_by n
target_purpose (Trailed p t ts) = trailers_purpose ts
target_purpose t = Plain

abbrev pub purpose_of : Trees → Purpose
purpose_of none = Plain
purpose_of (some t ts) = target_purpose t

-- the targets from the left, each with the same value
abbrev pub assigned : Known → Trees → Val → Doing
assigned k none v = came Next
assigned k (some t ts) v = and_then (assign k t v) (assigned k ts v)

-- an annotation of a class body is kept, where its target is a name without brackets
abbrev pub noted : Tree → Val → List NamedVal → List NamedVal
noted (Name p n) v notes = notes ++ named_val n v ∷ []
noted t v notes = notes

abbrev pub note_of : Tree → Val → Doing
note_of t v = λ w s. came Next w (record s { here = record s.here { notes = noted t v s.here.notes } })

abbrev pub note : Place → Tree → Val → Doing
note p t v = choose (is_simple p t) (note_of t v) (came Next)

-- ---- augmented assignments

-- the augmented sign of an operator
abbrev pub augmented_sign : PyOp → List ℕ
augmented_sign o = sign_of o ++ codes "="

-- what changes a list in place: `+=` extends it, and `*=` repeats it
abbrev pub list_change : PyOp → Option Builtin
list_change op.Add = Some builtins.Extend
list_change op.Mul = Some builtins.Repeat
list_change o = None

abbrev pub in_place : PyOp → Val → Option Builtin
in_place o (val.List i) = list_change o
in_place o x = None

-- a list that was changed in place is what comes
abbrev pub list_changed : Known → Builtin → Val → Val → Place → Doing
list_changed k b x y p = do
  _ ← built k b (x ∷ y ∷ []) p
  give x

abbrev pub changed_or : Known → Option Builtin → PyOp → Val → Val → Place → Doing
changed_or k None o x y p = operated k o x y p
changed_or k (Some b) o x y p = list_changed k b x y p

abbrev pub augmented : Known → PyOp → Val → Val → Place → Doing
augmented k o x y p =
    choose (is_thing x || is_thing y) (ask k (request act.Operator (x ∷ y ∷ []) (augmented_sign o ∷ []) p))
    (changed_or k (in_place o x) o x y p)

abbrev pub augment_name : Known → Place → List ℕ → Place → PyOp → Tree → Doing
augment_name k q n p o t = do
  x ← read k n q
  y ← value_of k Plain t
  z ← augmented k o x y p
  bind k n z q (came Next)

abbrev pub augment_last : Known → Place → Trailer → Val → Place → PyOp → Tree → Doing
augment_last k q (Attribute n) x p o t = do
  old ← attribute k x n q
  y ← value_of k Plain t
  z ← augmented k o old y p
  store_attribute k x n z q
augment_last k q (Index e) x p o t = do
  i ← value_of k Plain e
  old ← indexed k x i q
  y ← value_of k Plain t
  z ← augmented k o old y p
  store_index k x i z q
augment_last k q (Call gs) x p o t = stop Raised q
augment_last k q (CallOf e c) x p o t = stop Raised q
augment_last k q (Slice a b c) x p o t = stop Raised q

abbrev pub augment_along : Known → Place → Trailers → Val → Place → PyOp → Tree → Doing
augment_along k q no_trailer x p o t = stop Raised q
augment_along k q (trailer u us) x p o t = where_last us (augment_last k q u x p o t) (do
  y ← trailed_one k Plain q u x
  augment_along k q us y p o t)

abbrev pub augment : Known → Tree → Place → PyOp → Tree → Doing
augment k (Name q n) p o t = spend q (augment_name k q n p o t)
augment k (Trailed q e us) p o t = spend_each (trailer_count us) q (do
  x ← value_of k Plain e
  augment_along k q us x p o t)
augment k target p o t = stop Raised (place_of target)

-- ---- loops: so many turns at most, each of which spends a unit

-- what a turn's body leaves
abbrev pub turn_on : Got → Doing → Doing
turn_on (Returned v) m = came (Returned v)
turn_on Broke m = came Next
turn_on got m = m

unfoldable pub while_turns : ℕ → Known → Tree → Doing → Place → Doing
while_turns zero k t body p = stop Spent p
while_turns (suc n) k t body p = do
  x ← value_of k Plain t
  truth_of k x (place_of t) (λ b. choose b (spend p (then_do body (λ got. turn_on got (while_turns n k t body p)))) (came Next))

unfoldable pub for_turns : ℕ → Known → Val → (i size : ℕ) → Tree → Doing → Place → Doing
for_turns zero k v i size targets body p = stop Spent p
for_turns (suc n) k v i size targets body p = of_size k v size p (λ w s.
    on_element (element (heap_seen k s) v i) (came Next)
    (λ x. spend p (and_then (assign k targets x) (then_do body (λ got. turn_on got (for_turns n k v (i + 1) size targets body p))))) w s)

abbrev pub for_loop : Known → Val → Tree → Doing → Place → Doing
for_loop k v targets body p = if_row v p (λ w s. for_turns most k v 0 (row_size (heap_seen k s) v) targets body p w s)

-- ---- `with`

-- the block is left as it would be, once the store was told
abbrev pub left_with : Known → Val → Place → Got → Doing
left_with k x p got = do
  _ ← ask k (request act.Leave (x ∷ []) [] p)
  came got

abbrev pub assign_perhaps : Known → Perhaps → Val → Doing
assign_perhaps k absent v = came Next
assign_perhaps k (present t) v = assign k t v

abbrev pub with_thing : Known → Val → Perhaps → Doing → Place → Doing
with_thing k x target body p = choose (is_thing x)
    (do
      v ← ask k (request act.Enter (x ∷ []) [] p)
      and_then (assign_perhaps k target v) (then_do body (left_with k x p)))
    (stop Raised p)

-- ---- functions

-- the defaults of parameters, from the left
abbrev pub defaults_then : Known → List Val → List Parameter → (List Val → Doing) → Doing
defaults_then k vs [] f = f vs
defaults_then k vs (Star p ∷ ps) f = defaults_then k vs ps f
defaults_then k vs (Named p n a absent ∷ ps) f = defaults_then k vs ps f
defaults_then k vs (Named p n a (present t) ∷ ps) f = do
  v ← value_of k Plain t
  defaults_then k (vs ++ v ∷ []) ps f

-- an annotation is evaluated and dropped
abbrev pub dropped : Known → Perhaps → Doing → Doing
dropped k absent m = m
dropped k (present t) m = do
  _ ← value_of k Plain t
  m

abbrev pub annotations_then : Known → List Parameter → Doing → Doing
annotations_then k [] m = m
annotations_then k (Star p ∷ ps) m = annotations_then k ps m
annotations_then k (Named p n a d ∷ ps) m = dropped k a (annotations_then k ps m)

abbrev pub new_function : Place → List Val → Option ScopeId → Func
new_function p defaults scope = record { code = code.Def p; this = None; home = None; defaults = defaults; scope = scope }

abbrev pub defined : Known → Place → Body → Doing
defined k p (Fun q name is_async params result body) = defaults_then k [] params (λ defaults.
    annotations_then k params (dropped k result (
    making (λ s. new_func (heap_seen k s) (new_function q defaults (seen_from (heap_seen k s) s.here.scope))) p
    (λ v. bind k name v p (came Next)))))

-- ---- classes

-- a class has one base at most: a class or a thing; None where it may not have what is given
abbrev pub base_of : List Val → Option Val
base_of [] = Some val.None
base_of (val.Class o ∷ []) = Some (val.Class o)
base_of (val.Hw h ∷ []) = Some (val.Hw h)
base_of vs = None

-- whether the chain of bases ends at a thing: no attribute has the empty name
abbrev pub ends_at_thing : Inherited → Bool
ends_at_thing (inherited.Thing h) = true
ends_at_thing (inherited.Found v c) = false
ends_at_thing inherited.Nowhere = false

abbrev pub over_thing : Seen → Val → Bool
over_thing s (val.Hw h) = true
over_thing s (val.Class o) = ends_at_thing (inherits s [] o)
over_thing s v = false

-- the keywords of a class are for a thing alone
abbrev pub are_keywords : List NamedVal → Bool
are_keywords [] = false
are_keywords (x ∷ xs) = true

abbrev pub with_mark : List ℕ → List NamedVal → List (List ℕ)
with_mark mark xs = map (λ (x : NamedVal). mark ++ x.name) xs

abbrev pub bound_names : List Binding → List NamedVal
bound_names bs = map (λ (b : Binding). named_val b.0 b.1) bs

-- the end of a class: its value, and the store's where it stands over a thing
abbrev pub class_bound : Known → Bool → Val → Val → List ℕ → (keywords notes bindings : List NamedVal) → Place → Doing
class_bound k is_over c base name keywords notes bindings p = choose is_over
    (do
      v ← ask k (request act.ClassMade (c ∷ base ∷ (named_vals keywords ++ (named_vals notes ++ named_vals bindings))) (name ∷ (with_mark (codes "=") keywords ++ (with_mark (codes ":") notes ++ with_mark (codes ".") bindings))) p)
      bind k name v p (came Next))
    (bind k name c p (came Next))

abbrev pub as_base : Val → Option Val
as_base val.None = None
as_base v = Some v

abbrev pub kept_bindings : Option ClassBody → List NamedVal
kept_bindings None = []
kept_bindings (Some b) = b.bindings

-- a class stands in the scope round its body, where the functions that the body defined find it
abbrev pub known_as : Val → Result (Unit {0} × Made) ValueStop → Result (Val × Made) ValueStop
known_as c (Ok x) = Ok (c, x.1)
known_as c (Err e) = Err e

abbrev pub class_known : Seen → Option ScopeId → Val → Result (Val × Made) ValueStop
class_known s None c = Ok (c, s.own)
class_known s (Some round) c = known_as c (scope_bound s round.0 class_word c)

abbrev pub made_known : Seen → Option ScopeId → Result (Val × Made) ValueStop → Result (Val × Made) ValueStop
made_known s round (Ok x) = class_known (record s { own = x.1 }) round x.0
made_known s round (Err e) = Err e

-- the class of what a scope binds, known to those functions
abbrev pub known_class : Seen → Option Val → ScopeId → Result (Val × Made) ValueStop
known_class s base scope = made_known s (seen_from s scope) (new_class s base scope.0)

-- a class of what a body bound in a scope
abbrev pub class_built : Known → ScopeId → Val → List ℕ → (keywords notes bindings : List NamedVal) → Place → Doing
class_built k scope base name keywords notes bindings p = λ w s.
    making (λ t. known_class (heap_seen k t) (as_base base) scope) p
    (λ c. class_bound k (over_thing (heap_seen k s) base) c base name keywords notes bindings p) w s

-- once its body has run, what may be no base raises, and so do keywords over what is no thing
abbrev pub class_checked : Known → ScopeId → Option Val → List ℕ → (keywords notes bindings : List NamedVal) → Place → Doing
class_checked k scope None name keywords notes bindings p = stop Raised p
class_checked k scope (Some base) name keywords notes bindings p = λ w s.
    choose (are_keywords keywords && not (over_thing (heap_seen k s) base)) (stop Raised p) (class_built k scope base name keywords notes bindings p) w s

abbrev pub class_made : Known → Here → Option Val → List ℕ → List NamedVal → Place → Doing
class_made k outer base name keywords p = λ w s.
    class_checked k s.here.scope base name keywords s.here.notes (kept_bindings s.here.body) p w (record s { here = outer })

-- what a class body leaves
abbrev pub class_ended : Known → Here → Option Val → List ℕ → List NamedVal → Place → Got → Doing
class_ended k outer base name keywords p Next = class_made k outer base name keywords p
class_ended k outer base name keywords p got = λ w s. came got w (record s { here = outer })

-- where a class body stands
abbrev pub class_here : Here → ScopeId → Here
class_here outer scope = record { scope = scope; first = None; body = Some (record { scope = scope; bindings = [] }); notes = []; room = outer.room }

abbrev pub class_within : Known → ScopeId → Option Val → List ℕ → List NamedVal → List (List ℕ) → Doing → Place → Doing
class_within k round base name keywords own body p = λ w s.
    making (λ t. new_scope (heap_seen k t) (Some round) true own) p
    (λ scope w2 t. then_do body (class_ended k s.here base name keywords p) w2 (record t { here = class_here s.here scope })) w s

-- round the scope of the body stands one for the class alone
abbrev pub class_begun : Known → Option Val → List ℕ → List NamedVal → List (List ℕ) → Doing → Place → Doing
class_begun k base name keywords own body p =
    making (λ s. new_scope (heap_seen k s) (seen_from (heap_seen k s) s.here.scope) false (class_word ∷ [])) p
    (λ round. class_within k round base name keywords own body p)

-- the arguments of a class, as those of a call
abbrev pub bases_then : Known → Place → Bases → (List Val → List NamedVal → Doing) → Doing
bases_then k p no_bases f = f [] []
bases_then k p (bases (Call gs)) f = arguments_then k p [] [] gs f
bases_then k p (bases (CallOf t c)) f = do
  l ← list_of k t c
  f (l ∷ []) []
bases_then k p (bases t) f = f [] []

-- ---- statements

-- whether an evaluation stands in a class body or in the module, where annotations are evaluated
abbrev pub is_open : Option Scope → Bool
is_open None = false
is_open (Some scope) = scope.is_class || is_outermost scope.enclosing

abbrev pub evaluates_annotations : Seen → ScopeId → Bool
evaluates_annotations s here = is_open (scope_at s here.0)

abbrev pub annotated : Known → Place → Tree → Tree → Doing
annotated k p target t = λ w s. choose (evaluates_annotations (heap_seen k s) s.here.scope)
    (do
      v ← value_of k Plain t
      note p target v)
    (came Next) w s

abbrev pub assign_annotated : Known → Tree → Perhaps → Doing
assign_annotated k target absent = reach k target
assign_annotated k target (present t) = do
  v ← value_of k (target_purpose target) t
  assign k target v

-- the place of an `if` whose test is to come, and of an assertion that does not hold
abbrev pub asserted : Known → Place → Perhaps → Doing
asserted k p message = dropped k message (stop Assertion p)

abbrev mutual
  pub run : Known → Step → Doing
  run k (Pass p) = spend p (came Next)
  run k (Break p) = spend p (came Broke)
  run k (Continue p) = spend p (came Continued)
  run k (Return p e) = spend p (do
    v ← perhaps_value k e
    came (Returned v))
  run k (Assert p t message) = spend p (do
    x ← value_of k Plain t
    truth_of k x (place_of t) (λ b. choose b (came Next) (asserted k p message)))
  run k (Raise p e) = spend p (stop Raised p)
  run k (ImportAll p path) = spend p (all_imported k (dotted path) p)
  run k (Import p path names) = spend p (imported k (dotted path) p names)
  run k (Assign p ts t) = spend p (do
    v ← value_of k (purpose_of ts) t
    assigned k ts v)
  run k (Annotate p target t e) = spend p (and_then (assign_annotated k target e) (annotated k p target t))
  run k (Augment p target o t) = spend_each 2 p (augment k target p (operator_of o) t)
  run k (Evaluate p t) = spend p (do
    _ ← value_of k Plain t
    came Next)
  run k (If p bs b) = spend p (run_branches k bs (run_else k b))
  run k (While p t b) = spend p (while_turns most k t (run_all k b) p)
  run k (For p ts t b) = spend p (do
    x ← value_of k Plain t
    row ← as_row k x p
    for_loop k row ts (run_all k b) p)
  run k (With p t target b) = spend p (do
    x ← value_of k Plain t
    with_thing k x target (run_all k b) p)
  run k (Def p f) = spend p (defined k p f)
  run k (Class p name arguments b) = spend p (bases_then k p arguments (λ vs keywords. class_begun k (base_of vs) name keywords (steps_names b) (run_all k b) p))

  pub run_all : Known → Steps → Doing
  run_all k last = came Next
  run_all k (next s ss) = and_then (run k s) (run_all k ss)

  -- the first branch whose test holds, or what else there is
  pub run_branches : Known → Branches → Doing → Doing
  run_branches k no_branch other = other
  run_branches k (branch t b bs) other = do
    x ← value_of k Plain t
    truth_of k x (place_of t) (λ c. choose c (run_all k b) (run_branches k bs other))

  pub run_else : Known → Otherwise → Doing
  run_else k nothing_else = came Next
  run_else k (otherwise b) = run_all k b

-- ---- calls of functions

-- what a function's body leaves is its value
abbrev pub value_left : Got → Val
value_left (Returned v) = v
value_left (Value v) = val.None
value_left (Bound names) = val.None
value_left (Through v) = val.None
value_left Next = val.None
value_left Broke = val.None
value_left Continued = val.None

-- back where the call stands
abbrev pub call_ended : Here → Got → Doing
call_ended outer got = λ w s. give (value_left got) w (record s { here = outer })

abbrev pub first_of : List Val → Option Val
first_of [] = None
first_of (v ∷ vs) = Some v

-- where a function's body stands; so many calls may still stand in it
abbrev pub function_here : ℕ → Func → List Val → ScopeId → Here
function_here room f args scope = record { scope = scope; first = first_of args; body = None; notes = []; room = room }

-- a function's body runs in a new scope, where its parameters are bound
abbrev pub body_run : Known → ℕ → Func → List Val → List NamedVal → Body → Place → Doing
body_run k room f args met (Fun q name is_async params result body) p = λ w s.
    making (λ t. new_scope (heap_seen k t) f.scope false (function_names (Fun q name is_async params result body))) p
    (λ scope w2 t. bind_all k met p (then_do (run_all k body) (call_ended s.here)) w2 (record t { here = function_here room f args scope })) w s

-- how a call runs the body, by how many calls may still stand in one another
pub record Runs : Type 0 where
  pub run_body : Func → List Val → List NamedVal → Body → Place → Doing

abbrev pub with_met : Option (List NamedVal) → Place → (List NamedVal → Doing) → Doing
with_met None p f = stop Raised p
with_met (Some met) p f = f met

abbrev pub parameters_of : Body → List Parameter
parameters_of (Fun q name is_async params result body) = params

abbrev pub body_entered : Runs → Option Body → Func → List Val → List NamedVal → Place → Doing
body_entered r None f args keywords p = stop Raised p
body_entered r (Some body) f args keywords p =
    with_met (parameters_met (parameters_of body) (with_this f.this args) keywords f.defaults) p (λ met. r.run_body f (with_this f.this args) met body p)

abbrev pub code_entered : Runs → Steps → Code → Func → List Val → List NamedVal → Place → Doing
code_entered r program (code.Def q) f args keywords p = body_entered r (function_at q program) f args keywords p
code_entered r program (code.Builtin b) f args keywords p = stop Raised p

abbrev pub func_entered : Runs → Steps → Option Func → List Val → List NamedVal → Place → Doing
func_entered r program None args keywords p = stop Raised p
func_entered r program (Some f) args keywords p = code_entered r program f.code f args keywords p

abbrev pub entered : Runs → Steps → Made → Callee
entered r program frozen (val.Func f) args keywords p = λ w s. func_entered r program (func_at (seen frozen s.heap) f.0) args keywords p w s
entered r program frozen v args keywords p = stop Raised p

abbrev pub known_by : Steps → Made → Callee → Known
known_by program frozen call = record { program = program; frozen = frozen; call = call }

-- no call may stand in as many others as the limit says
abbrev pub no_room : Runs
no_room = record { run_body = λ f args met body p. stop Limit p }

unfoldable pub calls : ℕ → Steps → Made → Callee
calls zero program frozen = entered no_room program frozen
calls (suc room) program frozen = entered (record { run_body = body_run (known_by program frozen (calls room program frozen)) room }) program frozen

-- what is known where so many calls may still stand in one another
abbrev pub known : Steps → Made → ℕ → Known
known program frozen room = known_by program frozen (calls room program frozen)
