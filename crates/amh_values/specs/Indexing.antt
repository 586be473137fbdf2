-- An index of a thing: of a view its fields, of a value its bits, of an array its elements.
use Rattle.std.specs.Prelude.{List, ◌∷◌, slice_get, Option, Some, None, Result, Err}
use Rattle.design_ir.specs.declared.ids.ExprId.{ExprId}
use Rattle.design_ir.specs.Pools.{Pooled}
use Rattle.py_heap.specs.Heaps.{Seen}
use Rattle.py_values.specs.declared.val.Hw.{Hw}
use Rattle.py_values.specs.declared.val.Val.{Val}
use Rattle.py_values.specs.declared.val.Val.TheVariants as val
use Rattle.py_frames.specs.declared.request.Cause.{Cause}
use Rattle.py_frames.specs.declared.request.Cause.TheVariants.{Raised}
use Rattle.amh_things.specs.declared.thing.Thing.{Thing}
use Rattle.amh_things.specs.declared.plan.Plan.{Plan}
use Rattle.amh_things.specs.Things.{shown_view}
use Rattle.value_acts.specs.Indices.{indexed}
use Rattle.layout_acts.specs.Views as views

abbrev pub index_where : Seen → Pooled → List Thing → Option (Hw × ExprId) → Val → List Val → Result Plan Cause
index_where s p things (Some v) x vals = views.indexed s p things v vals
index_where s p things None x vals = indexed p things (x ∷ vals)

abbrev pub any_indexed : Seen → Pooled → List Thing → List Val → Result Plan Cause
any_indexed s p things (val.Hw h ∷ vals) = index_where s p things (shown_view (slice_get things h.0)) (val.Hw h) vals
any_indexed s p things vals = Err Raised
