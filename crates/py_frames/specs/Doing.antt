-- What an evaluation does: from a world and a state it comes to something and a state, or it halts.
-- Source: this project's own rule (docs/RULES.md).
use Rattle.std.specs.Prelude.{ℕ, ◌+◌, nat_lt, Bool, true, false, if◌then◌else◌, List, Option, Some, None, Result, Ok, Err}
use Rattle.amh_host.specs.declared.place.Place.{Place}
use Rattle.py_tree.specs.Steps.{Steps}
use Rattle.py_values.specs.declared.val.Val.{Val}
use Rattle.py_values.specs.declared.val.ValueStop.{ValueStop}
use Rattle.py_values.specs.declared.val.ValueStop.TheVariants as refusal
use Rattle.py_heap.specs.Heaps.{Made, Seen, seen}
use Rattle.py_values.specs.Runs.{Run}
use Rattle.py_frames.specs.declared.request.Answer.{Answer}
use Rattle.py_frames.specs.declared.request.NamedVal.{NamedVal}
use Rattle.py_frames.specs.declared.request.Cause.{Cause}
use Rattle.py_frames.specs.declared.request.Cause.TheVariants.{Raised, Width, Limit, Spent}
use Rattle.py_frames.specs.declared.state.State.{State}
use Rattle.py_frames.specs.declared.state.Halt.{Halt}
use Rattle.py_frames.specs.declared.state.Halt.TheVariants.{Stopped}
use Rattle.py_frames.specs.declared.state.Got.{Got}
use Rattle.py_frames.specs.declared.state.Got.TheVariants.{Value, Bound, Through, Next, Broke, Continued, Returned}

-- what an evaluation is given and only reads: how many units it may not reach, and all answers
pub record World : Type 0 where
  pub budget : ℕ
  pub answers : List Answer

-- how it comes out
pub data Outcome : Type 0 where
  Done : Got → State → Outcome
  Halts : Halt → State → Outcome

abbrev pub Doing : Type 0
Doing = World → State → Outcome

-- what a call of a function does: its value, the arguments in order, those by keyword, and the place of the call
abbrev pub Callee : Type 0
Callee = Val → List Val → List NamedVal → Place → Doing

-- what stays the same while a program runs: its tree, what stands before its machine, and what a call does
pub record Known : Type 0 where
  pub program : Steps
  pub frozen : Made
  pub call : Callee

abbrev pub heap_seen : Known → State → Seen
heap_seen k s = seen k.frozen s.heap

-- ---- one after the other

-- goes on from where it is done
abbrev pub after : Outcome → (Got → State → Outcome) → Outcome
after (Done got s) f = f got s
after (Halts h s) f = Halts h s

-- goes on with a value; whatever else comes is handed on
abbrev pub on_value : Got → (Val → Doing) → Doing
on_value (Value v) f = f v
on_value (Bound names) f = λ w s. Done (Bound names) s
on_value (Through v) f = λ w s. Done (Through v) s
on_value Next f = λ w s. Done Next s
on_value Broke f = λ w s. Done Broke s
on_value Continued f = λ w s. Done Continued s
on_value (Returned v) f = λ w s. Done (Returned v) s

-- goes on where nothing leaves the block
abbrev pub on_next : Got → Doing → Doing
on_next Next m = m
on_next (Value v) m = m
on_next (Bound names) m = m
on_next (Through v) m = m
on_next Broke m = λ w s. Done Broke s
on_next Continued m = λ w s. Done Continued s
on_next (Returned v) m = λ w s. Done (Returned v) s

infixl 10 ◌>>=◌
abbrev pub ◌>>=◌ : Doing → (Val → Doing) → Doing
m >>= f = λ w s. after (m w s) (λ got. on_value got f w)

-- a statement, and then what follows it
abbrev pub and_then : Doing → Doing → Doing
and_then m n = λ w s. after (m w s) (λ got. on_next got n w)

-- whatever it comes to
abbrev pub then_do : Doing → (Got → Doing) → Doing
then_do m f = λ w s. after (m w s) (λ got. f got w)

-- ---- ends

abbrev pub came : Got → Doing
came got = λ w s. Done got s

abbrev pub give : Val → Doing
give v = came (Value v)

abbrev pub stop : Cause → Place → Doing
stop cause place = λ w s. Halts (Stopped (record { cause = cause; place = place })) s

-- a choice
abbrev pub choose : Bool → Doing → Doing → Doing
choose true a b = a
choose false a b = b

-- a value, where there is one
abbrev pub with_value : Option Val → Place → (Val → Doing) → Doing
with_value None place f = stop Raised place
with_value (Some v) place f = f v

-- ---- units

-- so many units are spent: the one with which the cost reaches the budget is not carried out
abbrev pub spent_all : State → Place → Outcome
spent_all s place = Halts (Stopped (record { cause = Spent; place = place })) s

-- a unit, and then what it is for
abbrev pub spend : Place → Doing → Doing
spend place m = λ w s.
    if nat_lt (s.used + 1) w.budget then m w (record s { used = s.used + 1 })
    else spent_all (record s { used = w.budget }) place

-- so many units at one place
abbrev pub spend_each : ℕ → Place → Doing → Doing
spend_each n place m = λ w s.
    if nat_lt (s.used + n) w.budget then m w (record s { used = s.used + n })
    else spent_all (record s { used = w.budget }) place

-- ---- values of the heap

abbrev pub cause_of : ValueStop → Cause
cause_of refusal.Raised = Raised
cause_of refusal.Width = Width
cause_of refusal.Limit = Limit
cause_of refusal.Spent = Spent
cause_of refusal.NoMemory = Raised

-- what is made in the heap
abbrev pub made : {A : Type 0} → Result (A × Made) ValueStop → Place → (A → Doing) → Doing
made (Ok x) place f = λ w s. f x.0 w (record s { heap = x.1 })
made (Err e) place f = stop (cause_of e) place

abbrev pub making : {A : Type 0} → (State → Result (A × Made) ValueStop) → Place → (A → Doing) → Doing
making m place f = λ w s. made (m s) place f w s

-- what costs units besides
abbrev pub charged : {A : Type 0} → Run (A × Made) → Place → (A → Doing) → Doing
charged m place f = spend_each m.cost place (made m.answer place f)

abbrev pub charging : {A : Type 0} → (State → Run (A × Made)) → Place → (A → Doing) → Doing
charging m place f = λ w s. charged (m s) place f w s
