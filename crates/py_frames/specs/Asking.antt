-- Requests and their answers.
-- Source: this project's own rule (docs/RULES.md).
use Rattle.std.specs.Prelude.{ℕ, zero, suc, ◌+◌, Bool, true, false, List, [], ◌∷◌, slice_get, Option, Some, None}
use Rattle.amh_host.specs.declared.place.Place.{Place}
use Rattle.py_values.specs.declared.val.Val.{Val}
use Rattle.py_values.specs.declared.val.Val.TheVariants as val
use Rattle.py_values.specs.declared.func.Func.{Func}
use Rattle.py_values.specs.declared.func.Code.{Code}
use Rattle.py_values.specs.declared.func.Code.TheVariants as code
use Rattle.py_heap.specs.Heaps.{Seen, func_at}
use Rattle.py_heap.specs.Places.{new_text, new_tuple}
use Rattle.py_frames.specs.declared.request.Act.{Act}
use Rattle.py_frames.specs.declared.request.Act.TheVariants.{Import, Attribute, CallThing, Iterate, InitBase, BodyEnd, Returned, Await}
use Rattle.py_frames.specs.declared.request.Request.{Request}
use Rattle.py_frames.specs.declared.request.Answer.{Answer}
use Rattle.py_frames.specs.declared.request.Answer.TheVariants as answer
use Rattle.py_frames.specs.declared.request.Cause.TheVariants as cause
use Rattle.py_frames.specs.declared.state.Halt.TheVariants as halt
use Rattle.py_frames.specs.declared.state.Got.TheVariants.{Bound, Through}
use Rattle.py_frames.specs.Async.{is_async}
use Rattle.py_frames.specs.Doing.{Halts, Doing, Known, heap_seen, ◌>>=◌, came, give, stop, choose, making}

abbrev pub request : Act → List Val → List (List ℕ) → Place → Request
request act vals names place = record { act = act; vals = vals; names = names; place = place }

-- ---- which answers an act takes, beside a refusal

abbrev pub takes_value : Act → Bool
takes_value Iterate = false
takes_value InitBase = false
takes_value _ = true

abbrev pub takes_text : Act → Bool
takes_text Attribute = true
takes_text _ = false

abbrev pub takes_list : Act → Bool
takes_list CallThing = true
takes_list Iterate = true
takes_list Await = true
takes_list _ = false

abbrev pub takes_names : Act → Bool
takes_names Import = true
takes_names InitBase = true
takes_names _ = false

abbrev pub takes_call : Act → Bool
takes_call CallThing = true
takes_call BodyEnd = true
takes_call _ = false

abbrev pub takes_through : Act → Bool
takes_through Attribute = true
takes_through _ = false

-- what an act takes, and otherwise it raises
abbrev pub if_taken : Bool → Place → Doing → Doing
if_taken taken place m = choose taken m (stop cause.Raised place)

-- ---- a call that an answer asks for

-- the place of a function's `def` statement
abbrev pub code_place : Place → Code → Place
code_place place (code.Def p) = p
code_place place (code.Builtin b) = place

abbrev pub func_place : Place → Option Func → Place
func_place place None = place
func_place place (Some f) = code_place place f.code

abbrev pub callee_place : Seen → Place → Val → Place
callee_place s place (val.Func f) = func_place place (func_at s f.0)
callee_place s place _ = place

-- the end of a function that an answer began
abbrev pub returned : Seen → Place → Val → Val → Request
returned s place callee v = request Returned (v ∷ []) [] (callee_place s place callee)

-- A function that an answer calls is called as one of the program, so an `async` one is refused. Then its end is told.
abbrev pub function_called : Known → (Request → Doing) → Request → Val → List Val → Doing
function_called k again r callee args = λ w s.
    choose (is_async k (heap_seen k s) callee) (stop cause.Raised r.place)
    (do
      v ← k.call callee args [] r.place
      λ w s. again (returned (heap_seen k s) r.place callee v) w s)
    w s

-- ---- answers

-- An answer is taken. `again` asks for the end of a function that it began.
abbrev pub answered : Known → (Request → Doing) → Act → Request → Answer → Doing
answered k again act r answer.Begin = stop cause.Raised r.place
answered k again act r (answer.Give v) = if_taken (takes_value act) r.place (give v)
answered k again act r (answer.GiveText text) = if_taken (takes_text act) r.place (making (λ s. new_text (heap_seen k s) text) r.place give)
answered k again act r (answer.GiveList vals) = if_taken (takes_list act) r.place (making (λ s. new_tuple (heap_seen k s) vals) r.place give)
answered k again act r (answer.Bind names) = if_taken (takes_names act) r.place (came (Bound names))
answered k again act r (answer.Call callee args) = if_taken (takes_call act) r.place (function_called k again r callee args)
answered k again act r (answer.Through v) = if_taken (takes_through act) r.place (came (Through v))
answered k again act r (answer.Refuse why) = stop why r.place

-- the next answer is taken where there is one, and else the request stands
abbrev pub taken : Known → (Request → Doing) → Act → Request → Option Answer → Doing
taken k again act r None = λ w s. Halts (halt.Asks r) s
taken k again act r (Some a) = λ w s. answered k again act r a w (record s { taken = s.taken + 1 })

-- A request, whose answer is one of those of an act. It may begin so many functions, one after the other: each takes
-- an answer, and no list of answers is as long.
unfoldable pub asked : ℕ → Known → Act → Request → Doing
asked zero k act r = stop cause.Spent r.place
asked (suc n) k act r = λ w s. taken k (asked n k act) act r (slice_get w.answers s.taken) w s

abbrev pub most : ℕ
most = 18446744073709551615

abbrev pub ask : Known → Request → Doing
ask k r = asked most k r.act r
