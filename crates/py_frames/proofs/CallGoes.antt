-- How the frames of calls go on: under a frame that was put within the others, and by the kind of a frame.
use Rattle.std.proofs.Common.{◌≡◌, ℕ, ◌<◌, ◌≤◌, refl, sym, subst, List, ◌∷◌, length, slice_get, Option, Some, None, MatchOption, Result, Bor}
use Rattle.std.specs.Option.{option_copied}
use Rattle.std.specs.List.{HoldsAt}
use Rattle.std.proofs.lemmas.Option.{slice_get_past, slice_get_read}
use Rattle.py_heap.specs.Heaps.{Made}
use Rattle.py_values.specs.declared.val.Val.{Val}
use Rattle.py_frames.specs.declared.state.Halt.{Halt}
use Rattle.py_frames.specs.declared.frame.Now.{Now}
use Rattle.py_frames.specs.declared.frame.Frame.{Frame}
use Rattle.py_frames.specs.declared.frame.CallFrame.{CallFrame}
use Rattle.py_frames.specs.declared.functions.Functions.{Functions}
use Rattle.py_frames.specs.declared.going.Going.{Going}
use Rattle.py_frames.specs.Doing.{Doing, Known}
use Rattle.py_frames.specs.Call_frames.{call_value_goes}
use Rattle.py_frames.specs.Frames.{GoesOn, within, KeepsRoom}
use Rattle.py_frames.proofs.BeginLaws.{pushed}
use Rattle.py_frames.proofs.CallLaws.{same_goes}

-- what a number finds in a slice
pub got_is : {X : Type 0} (xs : List X) (n : ℕ) (o : Option (Bor X)) → MatchOption o (length xs ≤ n) (λ x. (n < length xs) × HoldsAt (λ y. x.now ≡ y) xs n) → option_copied o ≡ slice_get xs n
got_is xs n None h = sym (slice_get_past xs n h)
got_is xs n (Some x) h = sym (slice_get_read xs (length xs) n x.now refl h.0 (h.1 x.now))

-- a frame waits, where the list of frames is told by an equation
pub waited : (fns : Functions) (frozen : Made) (r : Result Now Halt) (x z : Going) (budget : ℕ) (f : Frame) (fs : List Frame) (m : Known → Doing) → fs ≡ f ∷ x.frames → GoesOn fns frozen r (record x { frames = fs }) z budget m → KeepsRoom f x.state.here.room → GoesOn fns frozen r x z budget (within f m)
waited fns frozen r x z budget f fs m e h room =
    let P : List Frame → Type 0 = λ g. GoesOn fns frozen r (record x { frames = g }) z budget m in
    pushed fns frozen r x z budget f m room (subst P e h)

-- a frame of a known kind that a value came to
pub value_as : (fns : Functions) (frozen : Made) (r : Result Now Halt) (x y : Going) (budget : ℕ) (f g : CallFrame) (v : Val) → f ≡ g → GoesOn fns frozen r x y budget (λ k. call_value_goes k g v) → GoesOn fns frozen r x y budget (λ k. call_value_goes k f v)
value_as fns frozen r x y budget f g v e h = same_goes fns frozen r x y budget (λ z k. call_value_goes k z v) g f (sym e) h
