-- `range`, `len`, `list`, `tuple`, `reversed`, `enumerate` and `zip`.
-- Source: Python library reference, Built-in Functions; lists in place of iterators: own rule (docs/RULES.md).
use Rattle.std.specs.Prelude.{ℕ, zero, suc, ◌+◌, min, Bool, true, false, if◌then◌else◌, ℤ, pos, ◌+ℤ◌, List, [], ◌∷◌, ◌++◌, length, map, reverse, unwrap_or, Option, Some, None, Result, Ok, Err}
use Rattle.std.specs.List.{list_all}
use Rattle.py_values.specs.declared.val.Val.{Val}
use Rattle.py_values.specs.declared.val.Val.TheVariants as val
use Rattle.py_values.specs.declared.val.ValueStop.{ValueStop}
use Rattle.py_values.specs.declared.val.ValueStop.TheVariants.{Raised, Width}
use Rattle.py_values.specs.declared.range.Span.{Span}
use Rattle.py_heap.specs.declared.fresh.Fresh.{Fresh}
use Rattle.py_heap.specs.declared.fresh.Fresh.TheVariants as fresh
use Rattle.py_heap.specs.Heaps.{Made, Seen, seen}
use Rattle.py_heap.specs.Places.{placed, new_range}
use Rattle.py_values.specs.Numbers.{number_of, is_zero, is_kept, kept}
use Rattle.py_operators.specs.Sums.{plain, made}
use Rattle.py_operators.specs.Elements.{elements, element, sized, count_of}

-- goes on with a value, and ends at a refusal
abbrev pub onward : {A B : Type 0} → Result A ValueStop → (A → Result B ValueStop) → Result B ValueStop
onward (Ok x) f = f x
onward (Err stop) f = Err stop

-- ---- `range`: its start, its stop and its step, which is not 0

abbrev pub span_between : Option ℤ → Option ℤ → Option ℤ → Option Span
span_between (Some a) (Some b) (Some c) = if is_zero c then None else Some (record { start = a; stop = b; step = c })
span_between (Some a) (Some b) None = None
span_between (Some a) None c = None
span_between None b c = None

abbrev pub span_given : List Val → Option Span
span_given (b ∷ []) = span_between (Some (pos 0)) (number_of b) (Some (pos 1))
span_given (a ∷ b ∷ []) = span_between (number_of a) (number_of b) (Some (pos 1))
span_given (a ∷ b ∷ c ∷ []) = span_between (number_of a) (number_of b) (number_of c)
span_given _ = None

abbrev pub range_of : Seen → List Val → Result (Val × Made) ValueStop
range_of s args = new_range s (span_given args)

-- ---- `len`: a range may have more elements than an integer can tell

abbrev pub measured : Option ℕ → Result Fresh ValueStop
measured None = Err Raised
measured (Some n) = plain (kept (pos n))

abbrev pub len_of : Seen → List Val → Result Fresh ValueStop
len_of s (v ∷ []) = measured (count_of s v)
len_of s _ = Err Raised

-- ---- `list`, `tuple` and `reversed`: always a new one

abbrev pub list_of : Seen → List Val → Result Fresh ValueStop
list_of s [] = Ok (fresh.List [])
list_of s (v ∷ []) = made fresh.List (elements s v)
list_of s _ = Err Raised

abbrev pub tuple_of : Seen → List Val → Result Fresh ValueStop
tuple_of s [] = Ok (fresh.Tuple [])
tuple_of s (v ∷ []) = made fresh.Tuple (elements s v)
tuple_of s _ = Err Raised

abbrev pub turned_round : Result (List Val) ValueStop → Result Fresh ValueStop
turned_round (Ok row) = Ok (fresh.List (reverse row))
turned_round (Err stop) = Err stop

abbrev pub reversed_of : Seen → List Val → Result Fresh ValueStop
reversed_of s (v ∷ []) = turned_round (elements s v)
reversed_of s _ = Err Raised

-- ---- a list of new tuples

-- new tuples of these rows, one after the other, behind the values that are there
unfoldable pub tuples_onto : Made → Made → List Val → List (List Val) → Result (List Val × Made) ValueStop
tuples_onto frozen own all [] = Ok (all, own)
tuples_onto frozen own all (row ∷ rows) = onward (placed (seen frozen own) (fresh.Tuple row)) (λ x. tuples_onto frozen x.1 (all ++ x.0 ∷ []) rows)

abbrev pub tuple_list : Seen → List (List Val) → Result (Val × Made) ValueStop
tuple_list s rows = onward (tuples_onto s.frozen s.own [] rows) (λ x. placed (seen s.frozen x.1) (fresh.List x.0))

-- ---- `enumerate`: each element behind its number, which is counted from the second argument on

-- so many numbers from n on are kept
abbrev pub all_kept : ℤ → ℕ → Bool
all_kept n zero = true
all_kept n (suc k) = is_kept (n +ℤ pos k)

unfoldable pub numbered : ℤ → List Val → List (List Val)
numbered n [] = []
numbered n (x ∷ xs) = (val.Int n ∷ x ∷ []) ∷ numbered (n +ℤ pos 1) xs

abbrev pub enumerated_row : Seen → ℤ → List Val → Result (Val × Made) ValueStop
enumerated_row s n xs = if all_kept n (length xs) then tuple_list s (numbered n xs) else Err Width

abbrev pub enumerated : Seen → Result (List Val) ValueStop → Option ℤ → Result (Val × Made) ValueStop
enumerated s xs None = Err Raised
enumerated s xs (Some n) = onward xs (enumerated_row s n)

abbrev pub enumerate_of : Seen → List Val → Result (Val × Made) ValueStop
enumerate_of s (v ∷ []) = enumerated s (elements s v) (Some (pos 0))
enumerate_of s (v ∷ n ∷ []) = enumerated s (elements s v) (number_of n)
enumerate_of s _ = Err Raised

-- ---- `zip`: the i-th tuple has the i-th element of each, as long as each has one

abbrev pub has_elements : Val → Bool
has_elements (val.List o) = true
has_elements (val.Tuple o) = true
has_elements (val.Dict o) = true
has_elements (val.Range o) = true
has_elements _ = false

-- n, or how many elements the one with the fewest has, if they are fewer
abbrev pub least_size : Seen → ℕ → List Val → Result ℕ ValueStop
least_size s n [] = Ok n
least_size s n (v ∷ vs) = onward (sized s v) (λ m. least_size s (min n m) vs)

abbrev pub shortest : Seen → List Val → Result ℕ ValueStop
shortest s [] = Ok 0
shortest s (v ∷ vs) = onward (sized s v) (λ n. least_size s n vs)

-- the i-th element of each
abbrev pub column : Seen → List Val → ℕ → List Val
column s vs i = map (λ v. unwrap_or (element s v i) val.None) vs

-- so many columns, from the i-th on
unfoldable pub columns : Seen → List Val → ℕ → ℕ → List (List Val)
columns s vs zero i = []
columns s vs (suc n) i = column s vs i ∷ columns s vs n (i + 1)

-- what has no elements is told before a range that has too many
abbrev pub zip_of : Seen → List Val → Result (Val × Made) ValueStop
zip_of s vs =
    if list_all has_elements vs then onward (shortest s vs) (λ n. tuple_list s (columns s vs n 0))
    else Err Raised
