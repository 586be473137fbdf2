-- Laws of the frames of calls.
use Rattle.std.proofs.Common.{◌≡◌, ℕ, refl, ap, ◌∙◌, sym, List, [], ◌∷◌, ◌++◌, Option, Some, None, Result, Ok, Bool, true, false}
use Rattle.amh_host.specs.declared.place.Place.{Place}
use Rattle.py_tree.specs.Programs.{steps_of}
use Rattle.py_values.specs.declared.val.Val.{Val}
use Rattle.py_values.specs.declared.val.Val.TheVariants as val
use Rattle.py_values.specs.declared.op.Builtin.{Builtin}
use Rattle.py_values.specs.declared.func.Func.{Func}
use Rattle.py_values.specs.declared.func.Code.{Code}
use Rattle.py_values.specs.declared.func.Code.TheVariants as code
use Rattle.py_heap.specs.Heaps.{Made, Seen, seen, func_at}
use Rattle.py_frames.specs.declared.request.Act.{Act}
use Rattle.py_frames.specs.declared.request.NamedVal.{NamedVal}
use Rattle.py_frames.specs.declared.request.Request.{Request}
use Rattle.py_frames.specs.declared.request.Act.TheVariants.{Returned}
use Rattle.py_frames.specs.declared.state.Here.{Here}
use Rattle.py_frames.specs.declared.state.Halt.{Halt}
use Rattle.py_frames.specs.declared.state.Got.{Got}
use Rattle.py_frames.specs.declared.state.Got.TheVariants.{Value}
use Rattle.py_frames.specs.declared.frame.Now.{Now}
use Rattle.py_frames.specs.declared.frame.Now.TheVariants.{Came, Waits}
use Rattle.py_frames.specs.declared.frame.Purpose.{Purpose}
use Rattle.py_frames.specs.declared.frame.Frame.TheVariants as frame
use Rattle.py_frames.specs.declared.frame.CallFrame.TheVariants as call
use Rattle.py_frames.specs.declared.functions.Functions.{Functions}
use Rattle.py_frames.specs.declared.going.Going.{Going}
use Rattle.py_frames.specs.Doing.{Doing, Known, came, give, choose, heap_seen, ◌>>=◌}
use Rattle.py_frames.specs.Asking.{request, asked, returned, callee_place}
use Rattle.py_frames.specs.Statements.{known, call_ended, value_left}
use Rattle.py_frames.specs.Async.{is_async, is_async_func, is_async_code}
use Rattle.py_frames.specs.Values.{called, gone_over}
use Rattle.py_frames.specs.Expressions.{call_for, call_awaited, awaited}
use Rattle.py_calls.specs.Awaiting.{is_async_by, is_async_of, is_async_in}
use Rattle.py_frames.specs.Frames.{GoesOn, within, finish}
use Rattle.py_frames.proofs.CallLaws.{looked, same_goes, same_runs}

pub came_on : (fns : Functions) (frozen : Made) (x : Going) (budget : ℕ) (got : Got) → GoesOn fns frozen (Ok (Came got)) x x budget (λ k. came got)
unfolding GoesOn
came_on fns frozen x budget got = λ w h. refl

waits_on : (fns : Functions) (frozen : Made) (x : Going) (budget n : ℕ) (act : Act) (q : Request) → GoesOn fns frozen (Ok (Waits q act n)) x x budget (λ k. asked n k act q)
unfolding GoesOn
waits_on fns frozen x budget n act q = λ w h. refl

pub answering_waits : (fns : Functions) (frozen : Made) (x : Going) (budget n : ℕ) (act : Act) (q : Request) (place at_place : Place) (callee v : Val) → at_place ≡ callee_place (seen frozen x.state.heap) place callee → q ≡ request Returned (v ∷ []) [] at_place → GoesOn fns frozen (Ok (Waits q act n)) x x budget (λ k w s. asked n k act (returned (heap_seen k s) place callee v) w s)
answering_waits fns frozen x budget n act q place at_place callee v e1 e2 =
    looked fns frozen (Ok (Waits q act n)) x x budget (λ s. returned s place callee v) (λ z k. asked n k act z) q (e2 ∙ ap (λ (z : Place). request Returned (v ∷ []) [] z) e1) (waits_on fns frozen x budget n act q)

-- back where the call stands, under which as many calls may still stand in one another
pub call_ended_goes : (fns : Functions) (frozen : Made) (x : Going) (budget : ℕ) (outer : Here) (got : Got) (v : Val) → v ≡ value_left got → outer.room ≡ x.state.here.room → GoesOn fns frozen (Ok (Came (Value v))) x (record x { state = record x.state { here = outer } }) budget (λ k. call_ended outer got)
unfolding GoesOn
call_ended_goes fns frozen x budget outer got v e1 e2 = λ w h.
    ap (λ (n : ℕ). finish (steps_of fns.program) frozen n x.frames w (give (value_left got) w (record x.state { here = outer }))) (sym e2)
    ∙ ap (λ (z : Val). finish (steps_of fns.program) frozen outer.room x.frames w (give z w (record x.state { here = outer }))) (sym e1)

pub gone_pushed : (fns : Functions) (frozen : Made) (r : Result Now Halt) (x y : Going) (budget : ℕ) (b : Builtin) (n : ℕ) (done more rest : List Val) (v : Val) (place : Place) → more ≡ done ++ v ∷ [] → GoesOn fns frozen r x y budget (λ k. gone_over k b n more rest place) → GoesOn fns frozen r x y budget (λ k. gone_over k b n (done ++ v ∷ []) rest place)
gone_pushed fns frozen r x y budget b n done more rest v place e1 h = same_goes fns frozen r x y budget (λ z k. gone_over k b n z rest place) more (done ++ v ∷ []) e1 h

pub name_same : (fns : Functions) (frozen : Made) (r : Result Now Halt) (x y : Going) (budget : ℕ) (name text : List ℕ) (f : Val) (args : List Val) (keywords : List NamedVal) (place : Place) → text ≡ name → GoesOn fns frozen r x y budget (λ k. called k text f args keywords place) → GoesOn fns frozen r x y budget (λ k. called k name f args keywords place)
name_same fns frozen r x y budget name text f args keywords place e1 h = same_goes fns frozen r x y budget (λ z k. called k z f args keywords place) text name e1 h

pub list_given : (fns : Functions) (frozen : Made) (r : Result Now Halt) (x y : Going) (budget : ℕ) (u : Purpose) (f v : Val) (args : List Val) (keywords : List NamedVal) (place : Place) → args ≡ v ∷ [] → keywords ≡ [] → GoesOn fns frozen r x y budget (λ k. call_for k u f args keywords place) → GoesOn fns frozen r x y budget (λ k. call_for k u f (v ∷ []) [] place)
list_given fns frozen r x y budget u f v args keywords place e1 e2 h = same_goes fns frozen r x y budget (λ z k. call_for k u f z [] place) args (v ∷ []) e1 (same_goes fns frozen r x y budget (λ z k. call_for k u f args z place) keywords [] e2 h)

is_async-of : (k : Known) (o : Option Func) → is_async_func k o ≡ is_async_of k.program o
is_async-of k None = refl
is_async-of k (Some f) = is_async-by k f.code
  where
    is_async-by : (k : Known) (c : Code) → is_async_code k c ≡ is_async_by k.program c
    is_async-by k (code.Def p) = refl
    is_async-by k (code.Builtin b) = refl

pub is_async-in : (k : Known) (s : Seen) (v : Val) → is_async k s v ≡ is_async_in k.program s v
is_async-in k s (val.Func f) = is_async-of k (func_at s f.0)
is_async-in k s v = refl

-- what a call gives is awaited
abbrev then_awaited : Known → Place → Val → List Val → List NamedVal → Place → Doing
then_awaited k p f args keywords place = do
  v ← called k [] f args keywords place
  awaited k v p

pub await_async : (fns : Functions) (frozen : Made) (r : Result Now Halt) (x y : Going) (budget : ℕ) (p : Place) (f : Val) (args : List Val) (keywords : List NamedVal) (place : Place) (b : Bool) → b ≡ is_async_in (steps_of fns.program) (seen frozen x.state.heap) f → b ≡ true → GoesOn fns frozen r x y budget (λ k. k.call f args keywords place) → GoesOn fns frozen r x y budget (λ k. call_awaited k p f args keywords place)
await_async fns frozen r x y budget p f args keywords place b e1 e2 h = same_runs fns frozen r x y budget (λ k. k.call f args keywords place) (λ k. call_awaited k p f args keywords place) (λ w. ap (λ (z : Bool). choose z ((known (steps_of fns.program) frozen x.state.here.room).call f args keywords place) (then_awaited (known (steps_of fns.program) frozen x.state.here.room) p f args keywords place) w x.state) (is_async-in (known (steps_of fns.program) frozen x.state.here.room) (seen frozen x.state.heap) f ∙ sym e1 ∙ e2)) h

pub await_called : (fns : Functions) (frozen : Made) (r : Result Now Halt) (x y : Going) (budget : ℕ) (p : Place) (f : Val) (args : List Val) (keywords : List NamedVal) (place : Place) (b : Bool) → b ≡ is_async_in (steps_of fns.program) (seen frozen x.state.heap) f → b ≡ false → GoesOn fns frozen r x y budget (within (frame.Call (call.Awaited p)) (λ k. called k [] f args keywords place)) → GoesOn fns frozen r x y budget (λ k. call_awaited k p f args keywords place)
await_called fns frozen r x y budget p f args keywords place b e1 e2 h = same_runs fns frozen r x y budget (λ k. then_awaited k p f args keywords place) (λ k. call_awaited k p f args keywords place) (λ w. ap (λ (z : Bool). choose z ((known (steps_of fns.program) frozen x.state.here.room).call f args keywords place) (then_awaited (known (steps_of fns.program) frozen x.state.here.room) p f args keywords place) w x.state) (is_async-in (known (steps_of fns.program) frozen x.state.here.room) (seen frozen x.state.heap) f ∙ sym e1 ∙ e2)) h

pub ruleset await_rules = (await_async, await_called)
