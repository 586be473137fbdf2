-- Values that are there at once: nothing is made for them, and they cost no unit.
-- Internal: no rule of the language.
use Rattle.std.specs.Prelude.{not, ℤ, Option, Some, None, Result, Ok, Err}
use Rattle.std.specs.Ordering.{int_eq}
use Rattle.py_values.specs.declared.val.Val.{Val}
use Rattle.py_values.specs.declared.val.Val.TheVariants as val
use Rattle.py_values.specs.declared.val.NumberStop.{NumberStop}
use Rattle.py_values.specs.declared.op.PyOp.{PyOp}
use Rattle.py_values.specs.declared.op.PyOp.TheVariants.{Eq, Ne}
use Rattle.py_heap.specs.Heaps.{Seen, row_at}
use Rattle.py_values.specs.Numbers.{calculated}
use Rattle.py_builtins.specs.Indices.{item_of}

abbrev pub kept_value : Result Val NumberStop → Option Val
kept_value (Ok v) = Some v
kept_value (Err e) = None

abbrev pub integers_give : PyOp → ℤ → ℤ → Option Val
integers_give Eq m n = Some (val.Bool (int_eq m n))
integers_give Ne m n = Some (val.Bool (not (int_eq m n)))
integers_give op m n = kept_value (calculated op m n)

abbrev pub integer_of : Val → Option ℤ
integer_of (val.Int n) = Some n
integer_of _ = None

abbrev pub of_integers : PyOp → Option ℤ → Option ℤ → Option Val
of_integers op None n = None
of_integers op (Some m) None = None
of_integers op (Some m) (Some n) = integers_give op m n

-- what an operator gives for two integers
abbrev pub integers_operated : PyOp → Val → Val → Option Val
integers_operated op a b = of_integers op (integer_of a) (integer_of b)

-- the item of a list or a tuple at an integer
abbrev pub item_at : Seen → Val → Val → Option Val
item_at s (val.List o) (val.Int n) = item_of (row_at s o.0) n
item_at s (val.Tuple o) (val.Int n) = item_of (row_at s o.0) n
item_at s _ _ = None
