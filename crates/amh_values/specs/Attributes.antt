-- Attributes of things: a value has methods, an enumeration has members, a view has methods and fields, and nothing else has an attribute.
use Rattle.std.specs.Prelude.{ℕ, List, [], ◌∷◌, slice_get, Option, Some, None, Result, Ok, Err}
use Rattle.data_layouts.specs.Enumerations.{Enumerated}
use Rattle.design_ir.specs.declared.ids.ExprId.{ExprId}
use Rattle.design_ir.specs.Pools.{Pooled}
use Rattle.py_values.specs.declared.val.Hw.{Hw}
use Rattle.py_values.specs.declared.val.Val.{Val}
use Rattle.py_values.specs.declared.val.Val.TheVariants as val
use Rattle.py_frames.specs.declared.request.Cause.{Cause}
use Rattle.py_frames.specs.declared.request.Cause.TheVariants.{Raised}
use Rattle.amh_things.specs.declared.thing.Thing.{Thing}
use Rattle.amh_things.specs.declared.thing.Thing.TheVariants as thing
use Rattle.amh_things.specs.declared.thing.Method.{Method}
use Rattle.amh_things.specs.Ends.{Ends}
use Rattle.amh_things.specs.declared.plan.Plan.{Plan}
use Rattle.amh_things.specs.Things.{bare_expr, method_named, shown_enumeration, shown_view}
use Rattle.amh_things.specs.Members.{member_named}
use Rattle.amh_things.specs.Plans.{ends_of, thing_made}
use Rattle.layout_acts.specs.Views as views

abbrev pub method_made : Ends → Hw → Option ExprId → Option Method → Result Plan Cause
method_made ends h (Some e) (Some m) = Ok (thing_made ends (thing.Method h e m))
method_made ends h None m = Err Raised
method_made ends h (Some e) None = Err Raised

abbrev pub thing_attribute : Ends → List Thing → Hw → Option Enumerated → List ℕ → Result Plan Cause
thing_attribute ends things h (Some e) n = member_named things h e n
thing_attribute ends things h None n = method_made ends h (bare_expr (slice_get things h.0)) (method_named n)

-- of a view by its layout and the value under it
abbrev pub attribute_where : Pooled → List Thing → Hw → Option (Hw × ExprId) → List ℕ → Result Plan Cause
attribute_where p things h (Some v) n = views.attributed p things h v n
attribute_where p things h None n = thing_attribute (ends_of p things) things h (shown_enumeration (slice_get things h.0)) n

abbrev pub attributed : Pooled → List Thing → List Val → List ℕ → Result Plan Cause
attributed p things (val.Hw h ∷ []) n = attribute_where p things h (shown_view (slice_get things h.0)) n
attributed p things vals n = Err Raised
