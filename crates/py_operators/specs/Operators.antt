-- What each operator gives, and at what cost.
-- Source: Python reference 6.5 to 6.11, operators; cost, and where `is` is defined: own rules (docs/RULES.md).
use Rattle.std.specs.Prelude.{◌&&◌, ◌||◌, not, Bool, true, false, Option, Some, None, Result, Ok, Err}
use Rattle.py_values.specs.declared.val.Val.{Val}
use Rattle.py_values.specs.declared.val.Val.TheVariants as val
use Rattle.py_values.specs.declared.val.ValueStop.{ValueStop}
use Rattle.py_values.specs.declared.val.ValueStop.TheVariants.{Raised}
use Rattle.py_values.specs.declared.op.PyOp.{PyOp}
use Rattle.py_values.specs.declared.op.PyOp.TheVariants.{Add, Mul, Neg, Pos, Invert, Not, Eq, Ne, In, NotIn, Is, IsNot}
use Rattle.py_operators.specs.declared.operators.Ask.{Ask}
use Rattle.py_operators.specs.declared.operators.Ask.TheVariants.{Equality, Membership, Neither}
use Rattle.py_heap.specs.declared.fresh.Fresh.{Fresh}
use Rattle.py_heap.specs.declared.fresh.Fresh.TheVariants as fresh
use Rattle.py_heap.specs.Heaps.{Made, Seen, seen}
use Rattle.py_values.specs.Runs.{Run, free, after}
use Rattle.py_values.specs.Numbers.{on_numbers, on_number}
use Rattle.py_heap.specs.Equality.{equal}
use Rattle.py_heap.specs.Members.{member}
use Rattle.py_operators.specs.Truths.{truth}
use Rattle.py_operators.specs.Sums.{plain, added, multiplied}
use Rattle.py_heap.specs.Places.{placed}

-- a boolean, or its opposite
abbrev pub shown : Bool → Bool → Fresh
shown true b = fresh.Val (val.Bool b)
shown false b = fresh.Val (val.Bool (not b))

abbrev pub shown_or : Bool → Result Bool ValueStop → Result Fresh ValueStop
shown_or sign (Ok b) = Ok (shown sign b)
shown_or sign (Err stop) = Err stop

abbrev pub asked : Bool → Run Bool → Run Fresh
asked sign m = after m (λ b. free (Ok (shown sign b)))

abbrev pub negated : Option Bool → Result Fresh ValueStop
negated None = Err Raised
negated (Some b) = Ok (shown false b)

-- `is` is defined where one side is None
abbrev pub is_none : Val → Bool
is_none val.None = true
is_none _ = false

abbrev pub one_thing : Bool → Bool → Bool → Result Fresh ValueStop
one_thing sign true b = Ok (shown sign b)
one_thing sign false true = Ok (shown sign false)
one_thing sign false false = Err Raised

-- the operators that cost nothing by themselves
abbrev pub operated_free : Seen → PyOp → Val → Val → Result Fresh ValueStop
operated_free s Add a b = added s a b
operated_free s Mul a b = multiplied s a b
operated_free s Neg a b = plain (on_number Neg a)
operated_free s Pos a b = plain (on_number Pos a)
operated_free s Invert a b = plain (on_number Invert a)
operated_free s Not a b = negated (truth s a)
operated_free s Is a b = one_thing true (is_none a) (is_none b)
operated_free s IsNot a b = one_thing false (is_none a) (is_none b)
operated_free s op a b = plain (on_numbers op a b)

-- whether an operator asks for equality or for a member, and whether it shows the answer or its opposite
abbrev pub ask_of : PyOp → Ask
ask_of Eq = Equality true
ask_of Ne = Equality false
ask_of In = Membership true
ask_of NotIn = Membership false
ask_of _ = Neither

abbrev pub operated_by : Seen → Ask → PyOp → Val → Val → Run Fresh
operated_by s (Equality sign) op a b = asked sign (equal s a b)
operated_by s (Membership sign) op a b = asked sign (member s a b)
operated_by s Neither op a b = free (operated_free s op a b)

abbrev pub operated : Seen → PyOp → Val → Val → Run Fresh
operated s op a b = operated_by s (ask_of op) op a b

-- the value, and the heap after it
abbrev pub operate : Made → Made → PyOp → Val → Val → Run (Val × Made)
operate frozen own op a b = after (operated (seen frozen own) op a b) (λ x. free (placed (seen frozen own) x))
