-- Small values, worked out; each is what CPython answers, but for the costs.
use Rattle.std.specs.Prelude.{◌≡◌, refl, ℕ, Bool, true, false, List, Option, [], ◌∷◌, ℤ, pos, negsuc, Ok, Err, Some, None, codes}
use Rattle.py_values.specs.declared.val.Val.{Val}
use Rattle.py_values.specs.declared.val.Val.TheVariants as val
use Rattle.py_values.specs.declared.val.ValueStop.TheVariants as stop
use Rattle.py_values.specs.declared.val.NumberStop.TheVariants.{Raised, Width}
use Rattle.py_values.specs.declared.op.PyOp.TheVariants.{Add, Mul, FloorDiv, Rem, Pow, Shl, Shr, And, Lt, Eq, In, Is, Not}
use Rattle.py_heap.specs.declared.fresh.Fresh.TheVariants as fresh
use Rattle.py_heap.specs.Heaps.{Made, Seen, seen, nothing}
use Rattle.py_values.specs.Runs.{give, refuse, free}
use Rattle.py_values.specs.Numbers.{calculated, on_numbers}
use Rattle.py_heap.specs.Equality.{equal, deeper}
use Rattle.py_heap.specs.Members.{member, has_part}
use Rattle.py_operators.specs.Sums.{copies, repeated}
use Rattle.py_operators.specs.Operators.{operated}
use Rattle.py_values.specs.declared.func.Scope.{Scope}
use Rattle.py_values.specs.declared.val.ScopeId.{ScopeId}
use Rattle.py_heap.specs.declared.scopes.LookUp.TheVariants.{Found, Unbound, Nowhere}
use Rattle.py_values.specs.Bindings.{bound_to}
use Rattle.py_heap.specs.Names.{look_up, in_chain}
use Rattle.py_heap.specs.Objects.{attribute_in}

-- -7 // 2, -7 % 2, 7 % -2, (-2) ** 127, 2 ** 128, 1 << 127, -5 >> 1, 1 // 0
numbers : (calculated FloorDiv (negsuc 6) (pos 2) ≡ Ok (val.Int (negsuc 3))) × (calculated Rem (negsuc 6) (pos 2) ≡ Ok (val.Int (pos 1))) × (calculated Rem (pos 7) (negsuc 1) ≡ Ok (val.Int (negsuc 0))) × (calculated Pow (negsuc 1) (pos 127) ≡ Ok (val.Int (negsuc 170141183460469231731687303715884105727))) × (calculated Pow (pos 2) (pos 128) ≡ Err Width) × (calculated Shl (pos 1) (pos 127) ≡ Ok (val.Int (pos 170141183460469231731687303715884105728))) × (calculated Shr (negsuc 4) (pos 1) ≡ Ok (val.Int (negsuc 2))) × (calculated FloorDiv (pos 1) (pos 0) ≡ Err Raised)
numbers = (refl, refl, refl, refl, refl, refl, refl, refl)

-- True + True, True & True, True < 2
booleans : (on_numbers Add (val.Bool true) (val.Bool true) ≡ Ok (val.Int (pos 2))) × (on_numbers And (val.Bool true) (val.Bool true) ≡ Ok (val.Bool true)) × (on_numbers Lt (val.Bool true) (val.Int (pos 2)) ≡ Ok (val.Bool true))
booleans = (refl, refl, refl)

number : ℕ → Val
number n = val.Int (pos n)

list : ℕ → Val
list n = val.List (record { 0 = n })

text : ℕ → Val
text n = val.Str (record { 0 = n })

-- rows [2], [1, [2]], [2], [1, [2]], [1], range(0, 10, 3) and {"b": 7}; strings "b" and "abc"; nothing is frozen
some : Seen
some = seen nothing (record {
  texts = codes "b" ∷ codes "abc" ∷ [];
  rows = (number 2 ∷ []) ∷ (number 1 ∷ list 0 ∷ []) ∷ (number 2 ∷ []) ∷ (number 1 ∷ list 2 ∷ []) ∷ (number 1 ∷ []) ∷ (number 0 ∷ number 10 ∷ number 3 ∷ []) ∷ (text 0 ∷ number 7 ∷ []) ∷ [];
  funcs = [];
  scopes = [];
  chars = 0;
  items = 0;
})

-- two lists cost three pairs, one thing nothing, lists of unlike lengths nothing, and two units are told before 1 == 2
lists : (equal some (list 1) (list 3) ≡ record { cost = 3; answer = Ok true }) × (equal some (list 1) (list 1) ≡ give true) × (equal some (list 1) (list 4) ≡ give false) × (equal some (list 0) (list 4) ≡ record { cost = 1; answer = Ok false })
unfolding deeper number list some
lists = (refl, refl, refl, refl)

-- [2] in [1, [2]], 9 in range(0, 10, 3), 10 in it, "b" in "abc", "b" in {"b": 7}, 1 in "abc"
members : (member some (list 2) (list 1) ≡ record { cost = 3; answer = Ok true }) × (member some (number 9) (val.Range (record { 0 = 5 })) ≡ give true) × (member some (number 10) (val.Range (record { 0 = 5 })) ≡ give false) × (member some (text 0) (text 1) ≡ give true) × (member some (text 0) (val.Dict (record { 0 = 6 })) ≡ give true) × (member some (number 1) (text 1) ≡ refuse stop.Raised)
unfolding deeper number list text some
members = (refl, refl, refl, refl, refl, refl)

-- [2] * 2, [2] * -1, [2] + [1], a time has no truth, None is None
others : (repeated (number 2 ∷ []) (Some (pos 2)) ≡ Ok (number 2 ∷ number 2 ∷ [])) × (repeated (number 2 ∷ []) (Some (negsuc 0)) ≡ Ok []) × (operated some Add (list 0) (list 4) ≡ free (Ok (fresh.List (number 2 ∷ number 1 ∷ [])))) × (operated some Not (val.Time 2) val.None ≡ refuse stop.Raised) × (operated some Is val.None val.None ≡ free (Ok (fresh.Val (val.Bool true))))
unfolding copies number list some
others = (refl, refl, refl, refl, refl)

-- the value of a name in a row of names and values
names : (attribute_in some (codes "b") (text 0 ∷ number 7 ∷ []) ≡ Some (number 7)) × (attribute_in some (codes "c") (text 0 ∷ number 7 ∷ []) ≡ None)
unfolding number text some
names = (refl, refl)

within : ℕ → Option ScopeId
within n = Some (record { 0 = n })

-- module: x = 1; in it def f with its own a = 3 and y; in it class C with its own a and x = 2; in it def g with its own b
nested : Seen
nested = seen nothing (record {
  texts = [];
  rows = [];
  funcs = [];
  scopes =
      record { enclosing = None; is_class = false; own = []; bindings = (codes "x", number 1) ∷ [] }
      ∷ record { enclosing = within 0; is_class = false; own = codes "a" ∷ codes "y" ∷ []; bindings = (codes "a", number 3) ∷ [] }
      ∷ record { enclosing = within 1; is_class = true; own = codes "a" ∷ codes "x" ∷ []; bindings = (codes "x", number 2) ∷ [] }
      ∷ record { enclosing = within 2; is_class = false; own = codes "b" ∷ []; bindings = [] }
      ∷ [];
  chars = 0;
  items = 0;
})

-- in g: x is the module's, a is f's, b is not bound yet, c is a builtin or nothing
in_function : (look_up nested 3 (codes "x") ≡ Found (number 1)) × (look_up nested 3 (codes "a") ≡ Found (number 3)) × (look_up nested 3 (codes "b") ≡ Unbound) × (look_up nested 3 (codes "c") ≡ Nowhere)
unfolding in_chain number within nested
in_function = (refl, refl, refl, refl)

-- in C: x is its own, a is its own and looked for in the module alone, y is not bound yet
in_class_body : (look_up nested 2 (codes "x") ≡ Found (number 2)) × (look_up nested 2 (codes "a") ≡ Nowhere) × (look_up nested 2 (codes "y") ≡ Unbound)
unfolding in_chain number within nested
in_class_body = (refl, refl, refl)

-- a name keeps its place
rebinding : bound_to (codes "x") (number 7) ((codes "x", number 1) ∷ (codes "y", number 2) ∷ []) ≡ (codes "x", number 7) ∷ (codes "y", number 2) ∷ []
unfolding number
rebinding = refl
