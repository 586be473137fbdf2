-- A request is asked, and a frame waits for its answer.
use Rattle.std.proofs.Common.{◌≡◌, ℕ, subst, List, ◌∷◌, Result}
use Rattle.py_heap.specs.Heaps.{Made}
use Rattle.py_frames.specs.declared.request.Request.{Request}
use Rattle.py_frames.specs.declared.state.Halt.{Halt}
use Rattle.py_frames.specs.declared.frame.Now.{Now}
use Rattle.py_frames.specs.declared.frame.Frame.{Frame}
use Rattle.py_frames.specs.declared.functions.Functions.{Functions}
use Rattle.py_frames.specs.declared.going.Going.{Going}
use Rattle.py_frames.specs.Asking.{ask}
use Rattle.py_frames.specs.Frames.{GoesOn, KeepsRoom, within}
use Rattle.py_frames.proofs.BeginLaws.{no_memory, pushed}

pub ask_waited : (fns : Functions) (frozen : Made) (r : Result Now Halt) (x z : Going) (budget : ℕ) (f : Frame) (fs : List Frame) (q : Request) → KeepsRoom f x.state.here.room → fs ≡ f ∷ x.frames → GoesOn fns frozen r (record x { frames = fs }) z budget (λ k. ask k q) → GoesOn fns frozen r x z budget (within f (λ k. ask k q))
ask_waited fns frozen r x z budget f fs q room e h =
    let P : List Frame → Type 0 = λ g. GoesOn fns frozen r (record x { frames = g }) z budget (λ k. ask k q) in
    pushed fns frozen r x z budget f (λ k. ask k q) room (subst P e h)

pub ruleset ask_rules = (ask_waited, no_memory)
