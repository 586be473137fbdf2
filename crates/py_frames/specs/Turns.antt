-- When turns end: a request waits, or no frame waits for what came.
-- Internal: no rule of the language.
use Rattle.std.specs.Prelude.{◌≡◌, Bool, true, false, List, [], ◌∷◌, Result, Ok, Err, ⊤}
use Rattle.py_frames.specs.declared.state.Halt.{Halt}
use Rattle.py_frames.specs.declared.frame.Frame.{Frame}
use Rattle.py_frames.specs.declared.frame.CallFrame.{CallFrame}
use Rattle.py_frames.specs.declared.frame.CallFrame.TheVariants as call
use Rattle.py_frames.specs.declared.frame.Now.{Now}
use Rattle.py_frames.specs.declared.frame.Now.TheVariants.{Begin, Run, Came, Waits}
use Rattle.py_frames.specs.declared.going.Going.{Going}

abbrev pub is_alone : List Frame → Bool
is_alone [] = true
is_alone (f ∷ fs) = false

abbrev pub rests : Now → List Frame → Bool
rests (Begin e purpose) frames = false
rests (Run s) frames = false
rests (Came got) frames = is_alone frames
rests (Waits r act rounds) frames = true

-- the end of a call, under which as many calls may stand as where it began
abbrev pub is_call_end : CallFrame → Bool
is_call_end (call.CallEnd outer) = true
is_call_end f = false

-- what turns come to rests
abbrev pub Rests : Result Now Halt → Going → Type 0
Rests (Ok now) behind = rests now behind.frames ≡ true
Rests (Err h) behind = ⊤
