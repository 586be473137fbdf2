-- Words for builtins that go over the elements of things.
-- Internal: no rule of the language.
use Rattle.std.specs.Prelude.{ℕ, ◌≤◌, ◌&&◌, if◌then◌else◌, List, [], ◌∷◌, ◌++◌, length, pos, Result, Ok, Err}
use Rattle.amh_host.specs.declared.place.Place.{Place}
use Rattle.py_values.specs.declared.val.Val.{Val}
use Rattle.py_values.specs.declared.val.Val.TheVariants as val
use Rattle.py_values.specs.declared.op.Builtin.{Builtin}
use Rattle.py_values.specs.declared.op.PyOp.TheVariants as op
use Rattle.py_heap.specs.Heaps.{Made}
use Rattle.py_frames.specs.declared.state.Halt.{Halt}
use Rattle.py_frames.specs.declared.frame.Now.{Now}
use Rattle.py_frames.specs.declared.functions.Functions.{Functions}
use Rattle.py_frames.specs.declared.going.Going.{Going}
use Rattle.py_callables.specs.declared.call_gone.Gone.{Gone}
use Rattle.py_callables.specs.declared.call_gone.Gone.TheVariants as gone
use Rattle.py_frames.specs.Doing.{Doing, Known, ◌>>=◌}
use Rattle.py_frames.specs.Values.{is_thing, operated, goes_over, iterated, built_over, gone_over}
use Rattle.py_frames.specs.Frames.{GoesOn}

-- the first thing that a builtin goes over, with the arguments before it and behind it
abbrev pub first_gone : Builtin → (n : ℕ) → List Val → List Val → Gone
first_gone b n done [] = gone.Whole done
first_gone b n done (v ∷ vs) = if is_thing v && goes_over b n (length done) then gone.Thing done v vs else first_gone b n (done ++ v ∷ []) vs

-- what `sum` begins with, by all of its arguments
abbrev pub start_of : List Val → Val
start_of (row ∷ start ∷ []) = start
start_of vals = val.Int (pos 0)

-- An addition that asks nothing. Where it has a value, what follows goes on from there; and where it has none, that is what comes
-- out, whatever follows.
abbrev pub Adds : Functions → Made → Result Val Halt → Val → Val → Place → Going → Going → ℕ → Type 0
Adds functions frozen (Ok v) total x place before behind budget =
    (r : Result Now Halt) (z : Going) (f : Known → Val → Doing) → behind.state.used ≤ z.state.used
    → GoesOn functions frozen r behind z budget (λ k. f k v) → GoesOn functions frozen r before z budget (λ k. operated k op.Add total x place >>= f k)
Adds functions frozen (Err h) total x place before behind budget =
    (f : Known → Val → Doing) → GoesOn functions frozen (Err h) before behind budget (λ k. operated k op.Add total x place >>= f k)

-- the elements of a thing, and then the builtin goes on
abbrev pub thing_gone : Known → Builtin → (n : ℕ) → List Val → Val → List Val → Place → Doing
thing_gone k b n done v rest place = do
  t ← iterated k v place
  gone_over k b n (done ++ t ∷ []) rest place

-- a builtin goes on by the first thing that it goes over
abbrev pub gone_by : Known → Builtin → (n : ℕ) → Gone → Place → Doing
gone_by k b n (gone.Whole vals) place = built_over k b vals place
gone_by k b n (gone.Thing done v rest) place = thing_gone k b n done v rest place
