-- How a testbench begins.
use Rattle.std.proofs.Common.{◌≡◌, ℕ, ap, ◌∙◌, sym, Bool, true, false, List, [], ◌∷◌, Result}
use Rattle.amh_host.specs.declared.place.Place.{Place}
use Rattle.py_tree.specs.Programs.{steps_of}
use Rattle.py_values.specs.declared.val.Val.{Val}
use Rattle.py_values.specs.declared.val.Val.TheVariants as val
use Rattle.py_values.specs.declared.val.Hw.{Hw}
use Rattle.py_heap.specs.Heaps.{Made, Seen, seen}
use Rattle.py_frames.specs.declared.request.NamedVal.{NamedVal}
use Rattle.py_frames.specs.declared.request.Cause.TheVariants.{Raised}
use Rattle.py_frames.specs.declared.state.Halt.{Halt}
use Rattle.py_frames.specs.declared.frame.Now.{Now}
use Rattle.py_frames.specs.declared.functions.Functions.{Functions}
use Rattle.py_frames.specs.declared.going.Going.{Going}
use Rattle.py_frames.specs.Doing.{Known, World, stop, choose}
use Rattle.py_frames.specs.Asking.{callee_place}
use Rattle.py_frames.specs.Statements.{known}
use Rattle.py_frames.specs.Whole.{origin}
use Rattle.py_frames.specs.Frames.{GoesOn}
use Rattle.py_frames.proofs.CallLaws.{same_goes, same_runs}
use Rattle.py_calls.specs.Awaiting.{is_async_in}
use Rattle.py_calls.proofs.FrameLaws.{is_async-in}
use Rattle.py_machine.specs.Starts.{bench_called}

-- the thing is the one argument
pub called_alone : (fns : Functions) (frozen : Made) (r : Result Now Halt) (x y : Going) (budget : ℕ) (callee : Val) (ctx : Hw) (args : List Val) (keywords : List NamedVal) (place : Place) → args ≡ val.Hw ctx ∷ [] → keywords ≡ [] → GoesOn fns frozen r x y budget (λ k. k.call callee args keywords place) → GoesOn fns frozen r x y budget (λ k. k.call callee (val.Hw ctx ∷ []) [] place)
called_alone fns frozen r x y budget callee ctx args keywords place e1 e2 h =
    same_goes fns frozen r x y budget (λ vs k. k.call callee vs [] place) args (val.Hw ctx ∷ []) e1
    (same_goes fns frozen r x y budget (λ ks k. k.call callee args ks place) keywords [] e2 h)

-- whether the function is `async`, and where it stands, as the machine tells it
bench_chosen : (fns : Functions) (frozen : Made) (r : Result Now Halt) (x y : Going) (budget : ℕ) (callee : Val) (ctx : Hw) (b : Bool) (place : Place) → b ≡ is_async_in (steps_of fns.program) (seen frozen x.state.heap) callee → place ≡ callee_place (seen frozen x.state.heap) origin callee → GoesOn fns frozen r x y budget (λ k. choose b (k.call callee (val.Hw ctx ∷ []) [] place) (stop Raised place)) → GoesOn fns frozen r x y budget (λ k. bench_called k callee ctx)
bench_chosen fns frozen r x y budget callee ctx b place e at_place h =
    let K : Known = known (steps_of fns.program) frozen x.state.here.room in
    let S : Seen = seen frozen x.state.heap in
    same_runs fns frozen r x y budget (λ k. choose b (k.call callee (val.Hw ctx ∷ []) [] place) (stop Raised place)) (λ k. bench_called k callee ctx)
    (λ w. ap (λ (z : Bool). choose z (K.call callee (val.Hw ctx ∷ []) [] (callee_place S origin callee)) (stop Raised (callee_place S origin callee)) w x.state) (is_async-in K S callee ∙ sym e)
    ∙ ap (λ (p : Place). choose b (K.call callee (val.Hw ctx ∷ []) [] p) (stop Raised p) w x.state) (sym at_place)) h

pub bench_async : (fns : Functions) (frozen : Made) (r : Result Now Halt) (x y : Going) (budget : ℕ) (callee : Val) (ctx : Hw) (b : Bool) (place : Place) → b ≡ is_async_in (steps_of fns.program) (seen frozen x.state.heap) callee → b ≡ true → place ≡ callee_place (seen frozen x.state.heap) origin callee → GoesOn fns frozen r x y budget (λ k. k.call callee (val.Hw ctx ∷ []) [] place) → GoesOn fns frozen r x y budget (λ k. bench_called k callee ctx)
bench_async fns frozen r x y budget callee ctx b place e t at_place h = bench_chosen fns frozen r x y budget callee ctx true place (sym t ∙ e) at_place h

pub bench_plain : (fns : Functions) (frozen : Made) (r : Result Now Halt) (x y : Going) (budget : ℕ) (callee : Val) (ctx : Hw) (b : Bool) (place : Place) → b ≡ is_async_in (steps_of fns.program) (seen frozen x.state.heap) callee → b ≡ false → place ≡ callee_place (seen frozen x.state.heap) origin callee → GoesOn fns frozen r x y budget (λ k. stop Raised place) → GoesOn fns frozen r x y budget (λ k. bench_called k callee ctx)
bench_plain fns frozen r x y budget callee ctx b place e t at_place h = bench_chosen fns frozen r x y budget callee ctx false place (sym t ∙ e) at_place h
