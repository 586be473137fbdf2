-- Words for names that are bound one after the other, and attributes that are set so.
-- Internal: no rule of the language.
use Rattle.std.specs.Prelude.{ℕ, List, [], ◌∷◌, Result, Ok, Err}
use Rattle.py_values.specs.declared.val.ValueStop.{ValueStop}
use Rattle.py_heap.specs.Heaps.{Made, seen}
use Rattle.py_heap.specs.Names.{scope_bound}
use Rattle.py_heap.specs.Objects.{attribute_set}
use Rattle.py_frames.specs.declared.request.NamedVal.{NamedVal}

-- on with the heap that a change left
abbrev pub after_set : Result (Unit {0} × Made) ValueStop → (Made → Result Made ValueStop) → Result Made ValueStop
after_set (Ok x) f = f x.1
after_set (Err e) f = Err e

-- a change, with the heap that it left
abbrev pub left_heap : Result (Unit {0}) ValueStop → Made → Result Made ValueStop
left_heap (Ok x) heap = Ok heap
left_heap (Err e) heap = Err e

-- names are bound in a scope
abbrev pub names_bound : Made → ℕ → Made → List NamedVal → Result Made ValueStop
names_bound frozen scope heap [] = Ok heap
names_bound frozen scope heap (x ∷ xs) = after_set (scope_bound (seen frozen heap) scope x.name x.val) (λ more. names_bound frozen scope more xs)

-- attributes of an object are set
abbrev pub attributes_set : Made → ℕ → Made → List NamedVal → Result Made ValueStop
attributes_set frozen o heap [] = Ok heap
attributes_set frozen o heap (x ∷ xs) = after_set (attribute_set (seen frozen heap) o x.name x.val) (λ more. attributes_set frozen o more xs)
