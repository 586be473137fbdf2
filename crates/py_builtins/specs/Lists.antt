-- The methods of lists.
-- Source: Python library reference, Built-in Types: Mutable Sequence Types; counts: own rule (docs/RULES.md).
use Rattle.std.specs.Prelude.{ℕ, ℤ, negsuc, List, [], ◌∷◌, length, Option, Some, None, Result, Err}
use Rattle.py_values.specs.declared.val.Val.{Val}
use Rattle.py_values.specs.declared.val.Val.TheVariants as val
use Rattle.py_values.specs.declared.val.ValueStop.{ValueStop}
use Rattle.py_values.specs.declared.val.ValueStop.TheVariants.{Raised}
use Rattle.py_heap.specs.Heaps.{Made, Seen, row_of}
use Rattle.py_values.specs.Numbers.{number_of}
use Rattle.py_heap.specs.Changes.{own_number, index_place, appended, extended_own, replaced_own, inserted_own, taken}
use Rattle.py_operators.specs.Elements.{elements}
use Rattle.py_builtins.specs.Sequences.{onward}
use Rattle.py_operators.specs.Sums.{repeated}
use Rattle.py_builtins.specs.Indices.{nothing_given}

-- ---- `append`

abbrev pub append_to : Seen → List Val → Result (Val × Made) ValueStop
append_to s (val.List o ∷ v ∷ []) = nothing_given (appended s o.0 v)
append_to s _ = Err Raised

-- ---- `extend`: by the elements as they were before

abbrev pub extended_at : Seen → Option ℕ → Result (List Val) ValueStop → Result (Unit {0} × Made) ValueStop
extended_at s None xs = Err Raised
extended_at s (Some i) xs = onward xs (extended_own s i)

abbrev pub extended : Seen → ℕ → Result (List Val) ValueStop → Result (Unit {0} × Made) ValueStop
extended s o xs = extended_at s (own_number (length s.frozen.rows) (length s.own.rows) o) xs

abbrev pub extend_to : Seen → List Val → Result (Val × Made) ValueStop
extend_to s (val.List o ∷ b ∷ []) = nothing_given (extended s o.0 (elements s b))
extend_to s _ = Err Raised

-- ---- `*=`: the list becomes its items so many times; what it grows by is counted

abbrev pub repeated_at : Seen → Option ℕ → Option ℤ → Result (Unit {0} × Made) ValueStop
repeated_at s None n = Err Raised
repeated_at s (Some i) n = onward (repeated (row_of s.own.rows i) n) (replaced_own s i)

abbrev pub repeated_in : Seen → ℕ → Option ℤ → Result (Unit {0} × Made) ValueStop
repeated_in s o n = repeated_at s (own_number (length s.frozen.rows) (length s.own.rows) o) n

abbrev pub repeat_to : Seen → List Val → Result (Val × Made) ValueStop
repeat_to s (val.List o ∷ n ∷ []) = nothing_given (repeated_in s o.0 (number_of n))
repeat_to s _ = Err Raised

-- ---- `insert`: past an end is at that end

abbrev pub inserted_at : Seen → Option ℕ → Option ℤ → Val → Result (Unit {0} × Made) ValueStop
inserted_at s None n v = Err Raised
inserted_at s (Some i) None v = Err Raised
inserted_at s (Some i) (Some n) v = inserted_own s i n v

abbrev pub inserted : Seen → ℕ → Option ℤ → Val → Result (Unit {0} × Made) ValueStop
inserted s o n v = inserted_at s (own_number (length s.frozen.rows) (length s.own.rows) o) n v

abbrev pub insert_to : Seen → List Val → Result (Val × Made) ValueStop
insert_to s (val.List o ∷ n ∷ v ∷ []) = nothing_given (inserted s o.0 (number_of n) v)
insert_to s _ = Err Raised

-- ---- `pop`: without a place the last item; what was counted stays counted

abbrev pub popped_at : Seen → Option ℕ → Option ℤ → Result (Val × Made) ValueStop
popped_at s None n = Err Raised
popped_at s (Some i) None = Err Raised
popped_at s (Some i) (Some n) = taken s.own i (row_of s.own.rows i) (index_place (length (row_of s.own.rows i)) n)

abbrev pub popped : Seen → ℕ → Option ℤ → Result (Val × Made) ValueStop
popped s o n = popped_at s (own_number (length s.frozen.rows) (length s.own.rows) o) n

abbrev pub pop_from : Seen → List Val → Result (Val × Made) ValueStop
pop_from s (val.List o ∷ []) = popped s o.0 (Some (negsuc 0))
pop_from s (val.List o ∷ n ∷ []) = popped s o.0 (number_of n)
pop_from s _ = Err Raised
