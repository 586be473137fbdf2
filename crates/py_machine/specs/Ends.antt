-- Where a call stands that a frame is the end of.
use Rattle.std.specs.Prelude.{◌≡◌, ⊤}
use Rattle.py_frames.specs.declared.frame.CallFrame.{CallFrame}
use Rattle.py_frames.specs.declared.frame.CallFrame.TheVariants as call
use Rattle.py_machine.specs.declared.turn.CallCase.{CallCase}
use Rattle.py_machine.specs.declared.turn.CallCase.TheVariants.{End, Other}

abbrev pub EndOf : CallCase → CallFrame → Type 0
EndOf (End outer) f = f ≡ call.CallEnd outer
EndOf Other f = ⊤
