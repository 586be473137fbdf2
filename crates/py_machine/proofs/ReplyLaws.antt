-- Laws of answers.
use Rattle.std.proofs.Common.{◌≡◌, ℕ, ap, ◌∙◌, sym, Bool, true, false, List, [], Result}
use Rattle.amh_host.specs.declared.place.Place.{Place}
use Rattle.py_values.specs.declared.val.Val.{Val}
use Rattle.py_tree.specs.Programs.{steps_of}
use Rattle.py_heap.specs.Heaps.{Made, seen}
use Rattle.py_frames.specs.declared.request.Act.{Act}
use Rattle.py_frames.specs.declared.request.NamedVal.{NamedVal}
use Rattle.py_frames.specs.declared.state.Halt.{Halt}
use Rattle.py_frames.specs.declared.frame.Now.{Now}
use Rattle.py_frames.specs.declared.frame.Frame.TheVariants as frame
use Rattle.py_frames.specs.declared.frame.CallFrame.TheVariants as call
use Rattle.py_frames.specs.declared.functions.Functions.{Functions}
use Rattle.py_frames.specs.declared.going.Going.{Going}
use Rattle.py_frames.specs.declared.request.Cause.TheVariants.{Raised}
use Rattle.py_frames.specs.Doing.{Known, after, stop, choose}
use Rattle.py_frames.specs.Asking.{request, asked, function_called}
use Rattle.py_frames.specs.Statements.{known}
use Rattle.py_calls.specs.Awaiting.{is_async_in}
use Rattle.py_machine.specs.Replying.{call_told}
use Rattle.py_frames.specs.Frames.{GoesOn, within, goes_on}
use Rattle.py_frames.proofs.CallLaws.{same_goes, same_runs}
use Rattle.py_calls.proofs.FrameLaws.{is_async-in}

pub call_answer : (fns : Functions) (frozen : Made) (r : Result Now Halt) (x y : Going) (budget : ℕ) (n : ℕ) (act : Act) (callee : Val) (args : List Val) (keywords : List NamedVal) (place : Place) → keywords ≡ [] → GoesOn fns frozen r x y budget (within (frame.Call (call.Answering act place callee n)) (λ k. k.call callee args keywords place)) → GoesOn fns frozen r x y budget (λ k. call_told k n act callee args place)
call_answer fns frozen r x y budget n act callee args keywords place e1 h = same_goes fns frozen r x y budget (λ z k w s. after (k.call callee args z place w s) (λ got. goes_on k (frame.Call (call.Answering act place callee n)) got w)) keywords [] e1 h

call_chosen : (fns : Functions) (frozen : Made) (r : Result Now Halt) (x y : Going) (budget : ℕ) (n : ℕ) (act : Act) (callee : Val) (args : List Val) (place : Place) (b : Bool) → b ≡ is_async_in (steps_of fns.program) (seen frozen x.state.heap) callee → GoesOn fns frozen r x y budget (λ k. choose b (stop Raised place) (call_told k n act callee args place)) → GoesOn fns frozen r x y budget (λ k. function_called k (asked n k act) (request act [] [] place) callee args)
call_chosen fns frozen r x y budget n act callee args place b e h =
    let K : Known = known (steps_of fns.program) frozen x.state.here.room in
    same_runs fns frozen r x y budget (λ k. choose b (stop Raised place) (call_told k n act callee args place)) (λ k. function_called k (asked n k act) (request act [] [] place) callee args)
    (λ w. ap (λ z. choose z (stop Raised place) (call_told K n act callee args place) w x.state) (is_async-in K (seen frozen x.state.heap) callee ∙ sym e)) h

pub call_async : (fns : Functions) (frozen : Made) (r : Result Now Halt) (x y : Going) (budget : ℕ) (n : ℕ) (act : Act) (callee : Val) (args : List Val) (place : Place) (b : Bool) → b ≡ is_async_in (steps_of fns.program) (seen frozen x.state.heap) callee → b ≡ true → GoesOn fns frozen r x y budget (λ k. stop Raised place) → GoesOn fns frozen r x y budget (λ k. function_called k (asked n k act) (request act [] [] place) callee args)
call_async fns frozen r x y budget n act callee args place b e t h = call_chosen fns frozen r x y budget n act callee args place true (sym t ∙ e) h

pub call_plain : (fns : Functions) (frozen : Made) (r : Result Now Halt) (x y : Going) (budget : ℕ) (n : ℕ) (act : Act) (callee : Val) (args : List Val) (place : Place) (b : Bool) → b ≡ is_async_in (steps_of fns.program) (seen frozen x.state.heap) callee → b ≡ false → GoesOn fns frozen r x y budget (λ k. call_told k n act callee args place) → GoesOn fns frozen r x y budget (λ k. function_called k (asked n k act) (request act [] [] place) callee args)
call_plain fns frozen r x y budget n act callee args place b e t h = call_chosen fns frozen r x y budget n act callee args place false (sym t ∙ e) h

pub ruleset call_rules = (call_async, call_plain)
