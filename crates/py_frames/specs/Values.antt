-- What is done with values, once they are there: operators, truth, indices, attributes and calls.
-- Source: Python reference 6.3, Primaries, 6.4, 3.2 (methods), 3.3.1 (__init__), 3.3.3.6 (the class cell that `super()` reads), library reference, Built-in
-- Functions (object, sum, super); requests for things: own rule (docs/RULES.md).
use Rattle.std.specs.Prelude.{ℕ, zero, suc, ◌+◌, ◌==◌, ◌&&◌, ◌||◌, not, Bool, true, false, if◌then◌else◌, List, [], ◌∷◌, ◌++◌, map, length, pos, Option, Some, None, option_map, Result, Ok, Err, codes}
use Rattle.std.specs.List.{list_any}
use Rattle.lists.specs.Texts.{text_eq}
use Rattle.amh_host.specs.declared.place.Place.{Place}
use Rattle.py_values.specs.declared.val.Val.{Val}
use Rattle.py_values.specs.declared.val.Val.TheVariants as val
use Rattle.py_values.specs.declared.val.Hw.{Hw}
use Rattle.py_values.specs.declared.val.ObjId.{ObjId}
use Rattle.py_values.specs.declared.val.FuncId.{FuncId}
use Rattle.py_values.specs.declared.val.ScopeId.{ScopeId}
use Rattle.py_values.specs.declared.val.ValueStop.{ValueStop}
use Rattle.py_values.specs.declared.op.PyOp.{PyOp}
use Rattle.py_values.specs.declared.op.PyOp.TheVariants as op
use Rattle.py_values.specs.declared.op.Builtin.{Builtin}
use Rattle.py_values.specs.declared.op.Builtin.TheVariants as builtins
use Rattle.py_values.specs.declared.func.Func.{Func}
use Rattle.py_values.specs.declared.func.Code.{Code}
use Rattle.py_values.specs.declared.func.Code.TheVariants as code
use Rattle.py_heap.specs.declared.scopes.LookUp.{LookUp}
use Rattle.py_heap.specs.declared.scopes.LookUp.TheVariants as lookup
use Rattle.py_heap.specs.declared.objects.Inherited.{Inherited}
use Rattle.py_heap.specs.declared.objects.Inherited.TheVariants as inherited
use Rattle.py_heap.specs.Heaps.{Seen, row_at, func_at}
use Rattle.py_values.specs.Runs.{free}
use Rattle.py_operators.specs.Truths.{truth}
use Rattle.py_operators.specs.Operators.{operate}
use Rattle.py_builtins.specs.Builtins.{builtin}
use Rattle.py_operators.specs.Elements.{elements}
use Rattle.py_heap.specs.Names.{new_func, look_up, scope_bound}
use Rattle.py_heap.specs.Objects.{attributes, attribute_in, inherited as inherits, new_object, attribute_set}
use Rattle.py_frames.specs.declared.request.Act.TheVariants.{Attribute, SetAttribute, CallThing, Index, SetIndex, Operator, Length, Iterate, InitBase}
use Rattle.py_frames.specs.declared.request.NamedVal.{NamedVal}
use Rattle.py_frames.specs.declared.request.Cause.TheVariants.{Raised, Spent}
use Rattle.py_frames.specs.declared.state.Here.{Here}
use Rattle.py_frames.specs.declared.state.ClassBody.{ClassBody}
use Rattle.py_frames.specs.declared.state.Got.{Got}
use Rattle.py_frames.specs.declared.state.Got.TheVariants.{Bound, Through, Next}
use Rattle.py_frames.specs.Doing.{Doing, Known, heap_seen, ◌>>=◌, on_value, came, give, stop, choose, with_value, cause_of, making, made, charging, then_do, spend}
use Rattle.py_frames.specs.Asking.{request, ask, most}
use Rattle.py_frames.specs.Async.{is_async_code}
use Rattle.py_frames.specs.Functions.{named_val}

-- ---- names

-- A class body keeps what it binds, each binding in its order, also of a name that it bound before. What a comprehension in it binds is
-- its own: that has another scope.
abbrev pub kept_in : ScopeId → NamedVal → ClassBody → ClassBody
kept_in scope x b = if b.scope.0 == scope.0 then record b { bindings = b.bindings ++ x ∷ [] } else b

abbrev pub with_binding : NamedVal → Here → Here
with_binding x here = record here { body = option_map (kept_in here.scope x) here.body }

-- binds a name where the evaluation stands
abbrev pub bind : Known → List ℕ → Val → Place → Doing → Doing
bind k name v place m = λ w s. made (scope_bound (heap_seen k s) s.here.scope.0 name v) place
    (λ _ w2 s2. m w2 (record s2 { bound = s2.bound + 1; here = with_binding (named_val name v) s2.here })) w s

abbrev pub bind_all : Known → List NamedVal → Place → Doing → Doing
bind_all k [] place m = m
bind_all k (x ∷ xs) place m = bind k x.name x.val place (bind_all k xs place m)

-- the builtins, which are the first functions of each program's heap, in this order
abbrev pub builtin_names : List (List ℕ × Builtin)
builtin_names =
    (codes "range", builtins.Range) ∷ (codes "len", builtins.Len) ∷ (codes "int", builtins.Int) ∷ (codes "str", builtins.Str)
    ∷ (codes "bool", builtins.Bool) ∷ (codes "list", builtins.List) ∷ (codes "tuple", builtins.Tuple) ∷ (codes "dict", builtins.Dict)
    ∷ (codes "enumerate", builtins.Enumerate) ∷ (codes "zip", builtins.Zip) ∷ (codes "reversed", builtins.Reversed)
    ∷ (codes "min", builtins.Min) ∷ (codes "max", builtins.Max) ∷ (codes "sum", builtins.Sum) ∷ (codes "abs", builtins.Abs)
    ∷ (codes "print", builtins.Print) ∷ (codes "super", builtins.Super) ∷ []

-- the builtin of a name, by its number
abbrev pub builtin_from : ℕ → List ℕ → List (List ℕ × Builtin) → Option Val
builtin_from n name [] = None
builtin_from n name (b ∷ bs) = if text_eq b.0 name then Some (val.Func (record { 0 = n })) else builtin_from (suc n) name bs

-- behind the module's names stand `__name__`, whose text is the first of the heap, and the builtins
abbrev pub builtin_value : List ℕ → Option Val
builtin_value name = if text_eq (codes "__name__") name then Some (val.Str (record { 0 = 0 })) else builtin_from 0 name builtin_names

abbrev pub read_as : LookUp → List ℕ → Place → Doing
read_as (lookup.Found v) name place = give v
read_as lookup.Unbound name place = stop Raised place
read_as lookup.Nowhere name place = with_value (builtin_value name) place give

abbrev pub read : Known → List ℕ → Place → Doing
read k name place = λ w s. read_as (look_up (heap_seen k s) s.here.scope.0 name) name place w s

-- ---- truth

abbrev pub by_truth : Option Bool → Place → (Bool → Doing) → Doing
by_truth None place f = stop Raised place
by_truth (Some b) place f = f b

abbrev pub truth_of : Known → Val → Place → (Bool → Doing) → Doing
truth_of k v place f = λ w s. by_truth (truth (heap_seen k s) v) place f w s

-- ---- operators

abbrev pub is_thing : Val → Bool
is_thing (val.Hw h) = true
is_thing _ = false

-- Whether the store is asked: `is` speaks of None, and `in` of its right operand, so a thing may be sought in a list or
-- among the keys of a dict.
abbrev pub asks_operator : PyOp → Val → Val → Bool
asks_operator op.Is a b = false
asks_operator op.IsNot a b = false
asks_operator op.In a b = is_thing b
asks_operator op.NotIn a b = is_thing b
asks_operator op.Neg a b = is_thing a
asks_operator op.Pos a b = is_thing a
asks_operator op.Invert a b = is_thing a
asks_operator op.Not a b = false
asks_operator o a b = is_thing a || is_thing b

-- an operator by its sign
abbrev pub sign_of : PyOp → List ℕ
sign_of op.Add = codes "+"
sign_of op.Sub = codes "-"
sign_of op.Mul = codes "*"
sign_of op.FloorDiv = codes "//"
sign_of op.Rem = codes "%"
sign_of op.Pow = codes "**"
sign_of op.Shl = codes "<<"
sign_of op.Shr = codes ">>"
sign_of op.And = codes "&"
sign_of op.Or = codes "|"
sign_of op.Xor = codes "^"
sign_of op.Neg = codes "-"
sign_of op.Pos = codes "+"
sign_of op.Invert = codes "~"
sign_of op.Not = codes "not"
sign_of op.Eq = codes "=="
sign_of op.Ne = codes "!="
sign_of op.Lt = codes "<"
sign_of op.Le = codes "<="
sign_of op.Gt = codes ">"
sign_of op.Ge = codes ">="
sign_of op.In = codes "in"
sign_of op.NotIn = codes "not in"
sign_of op.Is = codes "is"
sign_of op.IsNot = codes "is not"

abbrev pub operated : Known → PyOp → Val → Val → Place → Doing
operated k o a b place =
    choose (asks_operator o a b) (ask k (request Operator (a ∷ b ∷ []) (sign_of o ∷ []) place))
    (charging (λ s. operate k.frozen s.heap o a b) place give)

-- ---- `in` a list or a tuple with things

-- a thing and itself
abbrev pub is_same_thing : Val → Val → Bool
is_same_thing (val.Hw a) (val.Hw b) = a.0 == b.0
is_same_thing _ _ = false

-- whether the value is this element, or `==` holds of the two; else what follows
abbrev pub matched : Known → Bool → Val → Val → Place → Doing → Doing
matched k sign a x place rest = choose (is_same_thing a x) (give (val.Bool sign)) (do
  t ← operated k op.Eq a x place
  truth_of k t place (λ found. choose found (give (val.Bool sign)) rest))

-- whether the value is an element, which are compared with it one after the other; each pair costs one
abbrev pub sought : Known → Bool → Val → List Val → Place → Doing
sought k sign a [] place = give (val.Bool (not sign))
sought k sign a (x ∷ xs) place = spend place (matched k sign a x place (sought k sign a xs place))

abbrev pub sought_among : Known → Bool → Val → Result (List Val) ValueStop → Place → Doing
sought_among k sign a (Ok vs) place = sought k sign a vs place
sought_among k sign a (Err e) place = stop (cause_of e) place

-- things among the elements that `sum` or `in` goes over
abbrev pub any_thing : Result (List Val) ValueStop → Bool
any_thing (Ok vs) = list_any is_thing vs
any_thing (Err e) = false

abbrev pub is_row : Val → Bool
is_row (val.List o) = true
is_row (val.Tuple o) = true
is_row _ = false

-- whether `in` compares with a thing: it is sought among the elements of a list or a tuple, or is one of them
abbrev pub seeks_things : Seen → Val → Val → Bool
seeks_things s a b = is_row b && (is_thing a || any_thing (elements s b))

-- `in` or `not in`
abbrev pub contained : Known → Bool → PyOp → Val → Val → Place → Doing
contained k sign o a b place = λ w s.
    choose (seeks_things (heap_seen k s) a b) (sought_among k sign a (elements (heap_seen k s) b) place) (operated k o a b place) w s

-- an operator that compares two operands
abbrev pub related : Known → PyOp → Val → Val → Place → Doing
related k op.In a b place = contained k true op.In a b place
related k op.NotIn a b place = contained k false op.NotIn a b place
related k o a b place = operated k o a b place

-- an operator of one operand
abbrev pub turned : Known → PyOp → Val → Place → Doing
turned k o a place =
    choose (asks_operator o a val.None) (ask k (request Operator (a ∷ []) (sign_of o ∷ []) place))
    (charging (λ s. operate k.frozen s.heap o a val.None) place give)

-- ---- builtins

-- a builtin over values of which none is gone over as a thing
abbrev pub built : Known → Builtin → List Val → Place → Doing
built k b vals place = charging (λ s. free (builtin k.frozen s.heap b vals)) place give

-- whether a builtin of so many arguments goes over the elements of the one at this place
abbrev pub goes_over : Builtin → ℕ → ℕ → Bool
goes_over builtins.List n i = i == 0
goes_over builtins.Tuple n i = i == 0
goes_over builtins.Dict n i = i == 0
goes_over builtins.Enumerate n i = i == 0
goes_over builtins.Reversed n i = i == 0
goes_over builtins.Sum n i = i == 0
goes_over builtins.Min n i = n == 1
goes_over builtins.Max n i = n == 1
goes_over builtins.Zip n i = true
goes_over builtins.Extend n i = i == 1
goes_over b n i = false

-- the elements of a thing, as a tuple
abbrev pub iterated : Known → Val → Place → Doing
iterated k v place = ask k (request Iterate (v ∷ []) [] place)

-- additions from the left, each as the operator asks for it
abbrev pub summed : Known → Val → List Val → Place → Doing
summed k total [] place = give total
summed k total (x ∷ xs) place = do
  t ← operated k op.Add total x place
  summed k t xs place

-- things among the elements that `sum` goes over, or what it begins with
abbrev pub adds_things : Seen → List Val → Bool
adds_things s (row ∷ []) = any_thing (elements s row)
adds_things s (row ∷ start ∷ []) = is_thing start || any_thing (elements s row)
adds_things s vals = false

-- what `sum` begins with
abbrev pub sum_start : List Val → Val
sum_start (start ∷ []) = start
sum_start vals = val.Int (pos 0)

abbrev pub sum_over : Known → Result (List Val) ValueStop → Val → Place → Doing
sum_over k (Ok vs) start place = summed k start vs place
sum_over k (Err e) start place = stop (cause_of e) place

abbrev pub sum_asked : Known → List Val → Place → Doing
sum_asked k (row ∷ more) place = λ w s. sum_over k (elements (heap_seen k s) row) (sum_start more) place w s
sum_asked k [] place = stop Raised place

-- a builtin whose arguments are rows: `sum` asks for its additions where there are things among what it adds
abbrev pub built_over : Known → Builtin → List Val → Place → Doing
built_over k builtins.Sum vals place = λ w s. choose (adds_things (heap_seen k s) vals) (sum_asked k vals place) (built k builtins.Sum vals place) w s
built_over k b vals place = built k b vals place

-- the things that are gone over become tuples of their elements, and then the builtin goes on
abbrev pub gone_over : Known → Builtin → (n : ℕ) → List Val → List Val → Place → Doing
gone_over k b n done [] place = built_over k b done place
gone_over k b n done (v ∷ vs) place = choose (is_thing v && goes_over b n (length done))
    (do
      t ← iterated k v place
      gone_over k b n (done ++ t ∷ []) vs place)
    (gone_over k b n (done ++ v ∷ []) vs place)

-- ---- attributes

-- a function that is read from a class is bound to the object that it is read through
abbrev pub method_of : Func → Option Val → Func
method_of f this = record f { this = this }

abbrev pub is_unbound : Option Val → Bool
is_unbound None = true
is_unbound (Some v) = false

-- whether reading a function from a class binds it: functions of the program, and the `__init__` of every object
abbrev pub is_plain_code : Code → Option Val → Bool
is_plain_code (code.Def p) this = is_unbound this
is_plain_code (code.Builtin builtins.InitNothing) this = is_unbound this
is_plain_code (code.Builtin b) this = false

abbrev pub as_method : Known → Option Func → Val → Option Val → Place → Doing
as_method k None v this place = give v
as_method k (Some f) v this place =
    choose (is_plain_code f.code f.this) (making (λ s. new_func (heap_seen k s) (method_of f this)) place give) (give v)

-- a value that was found in a class
abbrev pub from_class : Known → Val → Option Val → Place → Doing
from_class k (val.Func f) this place = λ w s. as_method k (func_at (heap_seen k s) f.0) (val.Func f) this place w s
from_class k v this place = give v

abbrev pub bound_builtin : Builtin → Option Val → Func
bound_builtin b this = record { code = code.Builtin b; this = this; home = None; defaults = []; scope = None }

abbrev pub builtin_made : Known → Builtin → Option Val → Place → Doing
builtin_made k b this place = making (λ s. new_func (heap_seen k s) (bound_builtin b this)) place give

abbrev pub builtin_method : Known → Option Builtin → Val → Place → Doing
builtin_method k None this place = stop Raised place
builtin_method k (Some b) this place = builtin_made k b (Some this) place

abbrev pub list_method : List ℕ → Option Builtin
list_method name =
    if text_eq (codes "append") name then Some builtins.Append
    else (if text_eq (codes "extend") name then Some builtins.Extend
    else (if text_eq (codes "insert") name then Some builtins.Insert
    else (if text_eq (codes "pop") name then Some builtins.Pop else None)))

abbrev pub dict_method : List ℕ → Option Builtin
dict_method name =
    if text_eq (codes "items") name then Some builtins.Items
    else (if text_eq (codes "keys") name then Some builtins.Keys
    else (if text_eq (codes "values") name then Some builtins.Values
    else (if text_eq (codes "get") name then Some builtins.Get else None)))

-- goes on with the value that an answer says an attribute is to be taken from
abbrev pub on_through : Got → (Val → Doing) → Doing
on_through (Through v) f = f v
on_through got f = came got

-- the first item of a row, which is the class of an object and the base of a class
abbrev pub head_of : List Val → Val
head_of [] = val.None
head_of (v ∷ row) = v

abbrev pub is_init : List ℕ → Bool
is_init name = text_eq (codes "__init__") name

-- an attribute that no class has: `__init__` is then that of every object, bound where it is read through one
abbrev pub nowhere : Known → Option Val → List ℕ → Place → Doing
nowhere k this name place = choose (is_init name) (builtin_made k builtins.InitNothing this place) (stop Raised place)

-- `super().name` that reaches a thing
abbrev pub super_thing : Known → (Val → Doing) → Val → List ℕ → Place → Doing
super_thing k ask_for this name place = choose (is_init name) (builtin_method k (Some builtins.InitThing) this place) (ask_for this)

abbrev pub found_above : Known → (Val → Doing) → Val → List ℕ → Place → Inherited → Doing
found_above k ask_for this name place (inherited.Found v c) = from_class k v (Some this) place
found_above k ask_for this name place (inherited.Thing h) = super_thing k ask_for this name place
found_above k ask_for this name place inherited.Nowhere = nowhere k (Some this) name place

-- above a class, from its base on
abbrev pub above : Known → (Val → Doing) → Val → List ℕ → Place → Val → Doing
above k ask_for this name place (val.Class o) = λ w s. found_above k ask_for this name place (inherits (heap_seen k s) name o) w s
above k ask_for this name place (val.Hw h) = super_thing k ask_for this name place
above k ask_for this name place _ = nowhere k (Some this) name place

abbrev pub above_class : Known → (Val → Doing) → Val → List ℕ → Place → Val → Doing
above_class k ask_for this name place (val.Class o) = λ w s. above k ask_for this name place (head_of (row_at (heap_seen k s) o.0)) w s
above_class k ask_for this name place _ = stop Raised place

abbrev pub super_attribute : Known → (Val → Doing) → Option Val → Option Val → List ℕ → Place → Doing
super_attribute k ask_for (Some this) (Some c) name place = above_class k ask_for this name place c
super_attribute k ask_for this home name place = stop Raised place

-- of functions what `super()` gave alone has attributes
abbrev pub func_attribute : Known → (Val → Doing) → Code → Func → List ℕ → Place → Doing
func_attribute k ask_for (code.Builtin builtins.Super) f name place = super_attribute k ask_for f.this f.home name place
func_attribute k ask_for c f name place = stop Raised place

abbrev pub of_func : Known → (Val → Doing) → Option Func → List ℕ → Place → Doing
of_func k ask_for None name place = stop Raised place
of_func k ask_for (Some f) name place = func_attribute k ask_for f.code f name place

abbrev pub found_in : Known → (Val → Doing) → Val → Option Val → List ℕ → Place → Inherited → Doing
found_in k ask_for x this name place (inherited.Found v c) = from_class k v this place
found_in k ask_for x this name place (inherited.Thing h) = ask_for x
found_in k ask_for x this name place inherited.Nowhere = nowhere k this name place

-- in the class of an object
abbrev pub of_class : Known → (Val → Doing) → Val → List ℕ → Place → Val → Doing
of_class k ask_for x name place (val.Class o) = λ w s. found_in k ask_for x (Some x) name place (inherits (heap_seen k s) name o) w s
of_class k ask_for x name place _ = stop Raised place

abbrev pub of_object : Known → (Val → Doing) → ObjId → Option Val → List ℕ → Place → Doing
of_object k ask_for o (Some v) name place = give v
of_object k ask_for o None name place = λ w s. of_class k ask_for (val.Object o) name place (head_of (row_at (heap_seen k s) o.0)) w s

-- An attribute of a value. `ask_for` asks the store for that of a thing, or of what stands over one.
abbrev pub attribute_by : Known → (Val → Doing) → Val → List ℕ → Place → Doing
attribute_by k ask_for (val.Hw h) name place = ask_for (val.Hw h)
attribute_by k ask_for (val.Object o) name place = λ w s. of_object k ask_for o (attribute_in (heap_seen k s) name (attributes (row_at (heap_seen k s) o.0))) name place w s
attribute_by k ask_for (val.Class o) name place = λ w s. found_in k ask_for (val.Class o) None name place (inherits (heap_seen k s) name o) w s
attribute_by k ask_for (val.Func f) name place = λ w s. of_func k ask_for (func_at (heap_seen k s) f.0) name place w s
attribute_by k ask_for (val.List o) name place = builtin_method k (list_method name) (val.List o) place
attribute_by k ask_for (val.Dict o) name place = builtin_method k (dict_method name) (val.Dict o) place
attribute_by k ask_for v name place = stop Raised place

-- so many answers at most say that the attribute is to be taken from another value
unfoldable pub attribute_in_rounds : ℕ → Known → Val → List ℕ → Place → Doing
attribute_in_rounds zero k x name place = stop Spent place
attribute_in_rounds (suc n) k x name place =
    attribute_by k (λ y. then_do (ask k (request Attribute (y ∷ []) (name ∷ []) place)) (λ got. on_through got (λ v. attribute_in_rounds n k v name place))) x name place

abbrev pub attribute : Known → Val → List ℕ → Place → Doing
attribute k x name place = attribute_in_rounds most k x name place

-- `x.name = v`
abbrev pub store_attribute : Known → Val → List ℕ → Val → Place → Doing
store_attribute k (val.Hw h) name v place = then_do (ask k (request SetAttribute (val.Hw h ∷ v ∷ []) (name ∷ []) place)) (λ got. on_value got (λ _. came Next))
store_attribute k (val.Object o) name v place = making (λ s. attribute_set (heap_seen k s) o.0 name v) place (λ _. came Next)
store_attribute k (val.Class o) name v place = making (λ s. attribute_set (heap_seen k s) o.0 name v) place (λ _. came Next)
store_attribute k x name v place = stop Raised place

-- ---- indices

abbrev pub indexed : Known → Val → Val → Place → Doing
indexed k x i place =
    choose (is_thing x) (ask k (request Index (x ∷ i ∷ []) [] place)) (built k builtins.Index (x ∷ i ∷ []) place)

abbrev pub sliced : Known → Val → Val → Val → Val → Place → Doing
sliced k x i j step place =
    choose (is_thing x) (ask k (request Index (x ∷ i ∷ j ∷ step ∷ []) [] place)) (built k builtins.Slice (x ∷ i ∷ j ∷ step ∷ []) place)

-- `x[i] = v`
abbrev pub store_index : Known → Val → Val → Val → Place → Doing
store_index k x i v place = do
  _ ← choose (is_thing x) (ask k (request SetIndex (x ∷ i ∷ v ∷ []) [] place)) (built k builtins.SetIndex (x ∷ i ∷ v ∷ []) place)
  came Next

-- ---- calls

abbrev pub named_vals : List NamedVal → List Val
named_vals xs = map (λ (x : NamedVal). x.val) xs

abbrev pub named_names : List NamedVal → List (List ℕ)
named_names xs = map (λ (x : NamedVal). x.name) xs

-- names of an answer become attributes of an object, and then what follows
abbrev pub attributes_bound : Known → ObjId → List NamedVal → Place → Doing → Doing
attributes_bound k o [] place m = m
attributes_bound k o (x ∷ xs) place m = making (λ s. attribute_set (heap_seen k s) o.0 x.name x.val) place (λ _. attributes_bound k o xs place m)

abbrev pub on_names : Got → (List NamedVal → Doing) → Doing
on_names (Bound names) f = f names
on_names got f = came got

-- the store makes what an object has from the thing that its class stands over
abbrev pub init_thing : Known → ObjId → List Val → List NamedVal → Place → Doing → Doing
init_thing k o args keywords place m =
    then_do (ask k (request InitBase (val.Object o ∷ (args ++ named_vals keywords)) (named_names keywords) place))
    (λ got. on_names got (λ names. attributes_bound k o names place m))

abbrev pub init_this : Known → Option Val → List Val → List NamedVal → Place → Doing
init_this k (Some (val.Object o)) args keywords place = init_thing k o args keywords place (give val.None)
init_this k this args keywords place = stop Raised place

abbrev pub without_arguments : List Val → List NamedVal → Place → Doing → Doing
without_arguments [] [] place m = m
without_arguments args keywords place m = stop Raised place

-- Functions that are defined in the body of a class find the class in a scope round that body, under a word of the language, which no
-- program binds or reads.
abbrev pub class_word : List ℕ
class_word = codes "class"

-- whether a class is another, or stands over it with so many classes between them at most
unfoldable pub stands_over : ℕ → Seen → Val → ObjId → Bool
stands_over zero s v c = false
stands_over (suc n) s (val.Class d) c = (d.0 == c.0) || stands_over n s (head_of (row_at s d.0)) c
stands_over (suc n) s v c = false

-- whether an object is of a class, by its own class or a base of that: a base was made before its class
abbrev pub is_instance : Seen → ObjId → ObjId → Bool
is_instance s o c = stands_over (o.0 + 1) s (head_of (row_at s o.0)) c

abbrev pub super_func : ObjId → ObjId → Func
super_func o c = record { code = code.Builtin builtins.Super; this = Some (val.Object o); home = Some (val.Class c); defaults = []; scope = None }

-- what `super()` gives: the class in whose body the function was defined, and the function's first argument, which is an object of it
abbrev pub super_of : Seen → Option Val → LookUp → Option Func
super_of s (Some (val.Object o)) (lookup.Found (val.Class c)) = if is_instance s o c then Some (super_func o c) else None
super_of s first found = None

abbrev pub with_func : Known → Option Func → Place → Doing
with_func k None place = stop Raised place
with_func k (Some f) place = making (λ s. new_func (heap_seen k s) f) place give

abbrev pub super_called : Known → Option Val → Place → Doing
super_called k None place = λ w s. with_func k (super_of (heap_seen k s) s.here.first (look_up (heap_seen k s) s.here.scope.0 class_word)) place w s
super_called k (Some this) place = stop Raised place

abbrev pub with_this : Option Val → List Val → List Val
with_this None args = args
with_this (Some this) args = this ∷ args

-- `len` and `abs` ask of a thing; other builtins go over things that they take the elements of
abbrev pub length_called : Known → List Val → Place → Doing
length_called k (val.Hw h ∷ []) place = ask k (request Length (val.Hw h ∷ []) [] place)
length_called k args place = built k builtins.Len args place

abbrev pub magnitude_called : Known → List Val → Place → Doing
magnitude_called k (val.Hw h ∷ []) place = ask k (request Operator (val.Hw h ∷ []) (codes "abs" ∷ []) place)
magnitude_called k args place = built k builtins.Abs args place

abbrev pub plain_called : Known → Builtin → List Val → Place → Doing
plain_called k builtins.Len args place = length_called k args place
plain_called k builtins.Abs args place = magnitude_called k args place
plain_called k b args place = gone_over k b (length args) [] args place

-- the `__init__` of every object takes the object alone
abbrev pub nothing_begun : List Val → Place → Doing
nothing_begun (this ∷ []) place = give val.None
nothing_begun args place = stop Raised place

abbrev pub without_keywords : List NamedVal → Place → Doing → Doing
without_keywords [] place m = m
without_keywords (x ∷ xs) place m = stop Raised place

-- `print` alone of the plain builtins takes keywords
abbrev pub builtin_called : Known → Builtin → Option Val → List Val → List NamedVal → Place → Doing
builtin_called k builtins.Super this args keywords place = without_arguments args keywords place (super_called k this place)
builtin_called k builtins.InitThing this args keywords place = init_this k this args keywords place
builtin_called k builtins.InitNothing this args keywords place = without_keywords keywords place (nothing_begun (with_this this args) place)
builtin_called k builtins.Print this args keywords place = give val.None
builtin_called k b this args keywords place = without_keywords keywords place (plain_called k b (with_this this args) place)

-- an `async` function is called under `await` alone
abbrev pub code_called : Known → Code → FuncId → Func → List Val → List NamedVal → Place → Doing
code_called k (code.Def p) id f args keywords place = choose (is_async_code k (code.Def p)) (stop Raised place) (k.call (val.Func id) args keywords place)
code_called k (code.Builtin b) id f args keywords place = builtin_called k b f.this args keywords place

abbrev pub func_called : Known → FuncId → Option Func → List Val → List NamedVal → Place → Doing
func_called k id None args keywords place = stop Raised place
func_called k id (Some f) args keywords place = code_called k f.code id f args keywords place

abbrev pub thing_called : Known → Hw → List ℕ → List Val → List NamedVal → Place → Doing
thing_called k h name args keywords place =
    ask k (request CallThing (val.Hw h ∷ (args ++ named_vals keywords)) (name ∷ named_names keywords) place)

-- `__init__` gives None, and the call gives the object
abbrev pub initialised : Val → ObjId → Place → Doing
initialised val.None o place = give (val.Object o)
initialised _ o place = stop Raised place

-- a method that is called by name, as `__init__`
abbrev pub method_called : Known → Val → List Val → List NamedVal → Place → Doing
method_called k (val.Func f) args keywords place = λ w s. func_called k f (func_at (heap_seen k s) f.0) args keywords place w s
method_called k v args keywords place = stop Raised place

abbrev pub made_object : Known → ObjId → Inherited → List Val → List NamedVal → Place → Doing
made_object k o (inherited.Found v c) args keywords place = do
  method ← from_class k v (Some (val.Object o)) place
  r ← method_called k method args keywords place
  initialised r o place
made_object k o (inherited.Thing h) args keywords place = init_thing k o args keywords place (give (val.Object o))
made_object k o inherited.Nowhere args keywords place = without_arguments args keywords place (give (val.Object o))

abbrev pub object_made : Known → ObjId → Val → List Val → List NamedVal → Place → Doing
object_made k c (val.Object o) args keywords place = λ w s. made_object k o (inherits (heap_seen k s) (codes "__init__") c) args keywords place w s
object_made k c v args keywords place = stop Raised place

-- the call of a class: a new object, and then its `__init__`
abbrev pub class_called : Known → ObjId → List Val → List NamedVal → Place → Doing
class_called k c args keywords place = making (λ s. new_object (heap_seen k s) (val.Class c)) place (λ v. object_made k c v args keywords place)

-- the call of a value; `name` is what the call is assigned to, where it is the whole right side
abbrev pub called : Known → List ℕ → Val → List Val → List NamedVal → Place → Doing
called k name (val.Func f) args keywords place = λ w s. func_called k f (func_at (heap_seen k s) f.0) args keywords place w s
called k name (val.Class c) args keywords place = class_called k c args keywords place
called k name (val.Hw h) args keywords place = thing_called k h name args keywords place
called k name v args keywords place = stop Raised place

-- ---- elements

-- what is gone over, with its elements: a thing gives a tuple first
abbrev pub as_row : Known → Val → Place → Doing
as_row k v place = choose (is_thing v) (iterated k v place) (give v)
