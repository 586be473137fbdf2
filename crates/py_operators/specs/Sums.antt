-- `+` and `*`, which join and repeat strings, lists and tuples as well.
-- Source: Python reference 6.7, Binary arithmetic operations; library reference, Common Sequence Operations.
use Rattle.std.specs.Prelude.{ℕ, zero, suc, ◌*◌, nat_lt, if◌then◌else◌, List, [], ◌∷◌, ◌++◌, length, ℤ, pos, negsuc, Option, Some, None, Result, Ok, Err}
use Rattle.py_values.specs.declared.val.Val.{Val}
use Rattle.py_values.specs.declared.val.Val.TheVariants as val
use Rattle.py_values.specs.declared.val.ValueStop.{ValueStop}
use Rattle.py_values.specs.declared.val.ValueStop.TheVariants as stop
use Rattle.py_values.specs.declared.val.NumberStop.{NumberStop}
use Rattle.py_values.specs.declared.val.NumberStop.TheVariants.{Raised, Width}
use Rattle.py_values.specs.declared.op.PyOp.TheVariants.{Add, Mul}
use Rattle.py_heap.specs.declared.fresh.Fresh.{Fresh}
use Rattle.py_heap.specs.declared.fresh.Fresh.TheVariants as fresh
use Rattle.py_heap.specs.Heaps.{Seen, text_at, row_at}
use Rattle.py_values.specs.Numbers.{number_of, on_numbers}

-- a value that is not new
abbrev pub plain : Result Val NumberStop → Result Fresh ValueStop
plain (Ok v) = Ok (fresh.Val v)
plain (Err Raised) = Err stop.Raised
plain (Err Width) = Err stop.Width

-- ---- `+`

abbrev pub text_added : Seen → List ℕ → Val → Result Fresh ValueStop
text_added s text (val.Str y) = Ok (fresh.Text (text ++ text_at s y.0))
text_added s text _ = Err stop.Raised

abbrev pub list_added : Seen → List Val → Val → Result Fresh ValueStop
list_added s row (val.List y) = Ok (fresh.List (row ++ row_at s y.0))
list_added s row _ = Err stop.Raised

abbrev pub tuple_added : Seen → List Val → Val → Result Fresh ValueStop
tuple_added s row (val.Tuple y) = Ok (fresh.Tuple (row ++ row_at s y.0))
tuple_added s row _ = Err stop.Raised

abbrev pub added : Seen → Val → Val → Result Fresh ValueStop
added s (val.Str x) b = text_added s (text_at s x.0) b
added s (val.List x) b = list_added s (row_at s x.0) b
added s (val.Tuple x) b = tuple_added s (row_at s x.0) b
added s a b = plain (on_numbers Add a b)

-- ---- `*`

-- one after the other, so many times; none where the number is below 0
unfoldable pub copies : ℕ → List Val → List Val
copies zero row = []
copies (suc n) row = row ++ copies n row

abbrev pub times : ℤ → ℕ
times (pos n) = n
times (negsuc n) = 0

-- a row of more than 65,536 items is not made
abbrev pub repeated : List Val → Option ℤ → Result (List Val) ValueStop
repeated row None = Err stop.Raised
repeated row (Some n) = if nat_lt 65536 (times n * length row) then Err stop.Limit else Ok (copies (times n) row)

abbrev pub made : (List Val → Fresh) → Result (List Val) ValueStop → Result Fresh ValueStop
made f (Ok row) = Ok (f row)
made f (Err e) = Err e

abbrev pub multiplied_by : Seen → Val → Val → Result Fresh ValueStop
multiplied_by s a (val.List y) = made fresh.List (repeated (row_at s y.0) (number_of a))
multiplied_by s a (val.Tuple y) = made fresh.Tuple (repeated (row_at s y.0) (number_of a))
multiplied_by s a b = plain (on_numbers Mul a b)

abbrev pub multiplied : Seen → Val → Val → Result Fresh ValueStop
multiplied s (val.List x) b = made fresh.List (repeated (row_at s x.0) (number_of b))
multiplied s (val.Tuple x) b = made fresh.Tuple (repeated (row_at s x.0) (number_of b))
multiplied s a b = multiplied_by s a b
