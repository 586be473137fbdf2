-- Shapes that a program gives: of how many bits a signal is, and what these bits are read as. (Amaranth language guide 0.5, "Shapes": an integer, a
-- range, an enumeration or a layout may stand where a shape is wanted; a signal of an enumeration's or a layout's shape is a value of it.)
use Rattle.std.specs.Prelude.{List, Result, Ok, Err}
use Rattle.shape_rules.specs.Forms.{Form}
use Rattle.py_values.specs.declared.val.Val.{Val}
use Rattle.py_heap.specs.Heaps.{Seen}
use Rattle.py_frames.specs.declared.request.Cause.{Cause}
use Rattle.amh_things.specs.declared.thing.Thing.{Thing}
use Rattle.amh_things.specs.declared.thing.Reading.{Reading}
use Rattle.amh_things.specs.Things.{reading_given}
use Rattle.amh_things.specs.Meant.{shape_meant}
use Rattle.elab_store.specs.declared.shapes.Shaped.{Shaped}

abbrev pub shaped_by : Reading → Result Form Cause → Result Shaped Cause
shaped_by r (Ok f) = Ok (record { form = f; reading = r })
shaped_by r (Err why) = Err why

-- the shape that a value of the program is
abbrev pub shaped_meant : Seen → List Thing → Val → Result Shaped Cause
shaped_meant s things v = shaped_by (reading_given things v) (shape_meant s things v)
