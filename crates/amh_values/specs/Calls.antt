-- Calls of things: names, layouts, and the methods of a value or a view.
use Rattle.std.specs.Prelude.{ℕ, ◌==◌, if◌then◌else◌, true, false, List, [], ◌∷◌, slice_get, Option, Some, None, Result, Ok, Err}
use Rattle.shape_rules.specs.Forms.{Form}
use Rattle.shape_rules.specs.declared.op.Op.TheVariants as op
use Rattle.design_ir.specs.declared.ids.ExprId.{ExprId}
use Rattle.design_ir.specs.declared.expr.Expr.TheVariants.{Cast}
use Rattle.design_ir.specs.Pools.{Pooled}
use Rattle.design_ir.specs.Values.{form}
use Rattle.py_heap.specs.Heaps.{Seen}
use Rattle.py_values.specs.declared.val.Hw.{Hw}
use Rattle.py_values.specs.declared.val.Val.{Val}
use Rattle.py_values.specs.declared.val.Val.TheVariants as val
use Rattle.py_frames.specs.declared.request.Cause.{Cause}
use Rattle.py_frames.specs.declared.request.Cause.TheVariants.{Raised}
use Rattle.amh_things.specs.declared.thing.Thing.{Thing}
use Rattle.amh_things.specs.declared.thing.Thing.TheVariants as thing
use Rattle.amh_things.specs.declared.thing.Method.{Method}
use Rattle.amh_things.specs.declared.thing.Method.TheVariants as method
use Rattle.amh_things.specs.declared.operand.Operand.TheVariants.{Held}
use Rattle.amh_things.specs.Ends.{Ends}
use Rattle.amh_things.specs.declared.plan.Plan.{Plan}
use Rattle.amh_things.specs.Plans.{ends_of, value_made, thing_made, value_given}
use Rattle.value_acts.specs.Operators.{unary_made}
use Rattle.amh_things.specs.Arguments.{Arguments, arguments_of, fits}
use Rattle.value_acts.specs.Names.{name_called}
use Rattle.value_acts.specs.Joins.{cat_called}
use Rattle.value_acts.specs.Arrays.{array_called}
use Rattle.amh_things.specs.declared.thing.ThingName.{ThingName}
use Rattle.amh_things.specs.declared.thing.ThingName.TheVariants as name
use Rattle.value_acts.specs.Selections.{replicate_called, select_called}
use Rattle.value_acts.specs.Matching.{matches_called}
use Rattle.layout_acts.specs.declared.layouts.LayoutKind.TheVariants as kind
use Rattle.layout_acts.specs.Layouts as layouts
use Rattle.layout_acts.specs.Layouts.{members_called}
use Rattle.layout_acts.specs.Views.{layout_called}

-- ---- methods of a value without arguments

-- a signed shape has at least one bit
abbrev pub signed_made : Ends → ExprId → ℕ → Result Plan Cause
signed_made ends e width = if width == 0 then Err Raised else Ok (value_made ends [] (Cast e true))

-- `bool`, `any`, `all` and `xor` are operators, and `as_value` is the value under a view; the other methods take arguments, or are of the crate above
abbrev pub method_plan : Ends → ExprId → Form → Method → Result Plan Cause
method_plan ends e f method.Bool = unary_made ends op.Any (Held e f)
method_plan ends e f method.Any = unary_made ends op.Any (Held e f)
method_plan ends e f method.All = unary_made ends op.All (Held e f)
method_plan ends e f method.Xor = unary_made ends op.Parity (Held e f)
method_plan ends e f method.AsSigned = signed_made ends e f.width
method_plan ends e f method.AsUnsigned = Ok (value_made ends [] (Cast e false))
method_plan ends e f method.Shape = Ok (thing_made ends (thing.Shape f))
method_plan ends e f method.AsValue = Ok (thing_made ends (thing.Value e))
method_plan ends e f m = Err Raised

-- a call of a method that takes no arguments; `eq` is of the crate above
abbrev pub plain_called : Ends → ExprId → Form → Method → Arguments → Result Plan Cause
plain_called ends e f m a = if fits [] a then method_plan ends e f m else Err Raised

abbrev pub method_called : Seen → Pooled → List Thing → ExprId → Method → Arguments → Result Plan Cause
method_called s p things e method.Replicate a = replicate_called (ends_of p things) e (form p e.0).width a
method_called s p things e method.BitSelect a = select_called p things e false a
method_called s p things e method.WordSelect a = select_called p things e true a
method_called s p things e method.Matches a = matches_called s (ends_of p things) things e (form p e.0) a
method_called s p things e m a = plain_called (ends_of p things) e (form p e.0) m a

-- ---- things

-- what a call of a name gives
abbrev pub any_name_called : Seen → Pooled → List Thing → ThingName → Arguments → Result Plan Cause
any_name_called s p things name.Cat a = cat_called s p things a
any_name_called s p things name.Array a = array_called s (ends_of p things) a
any_name_called s p things name.StructLayout a = members_called s (ends_of p things) things kind.Structure a
any_name_called s p things name.UnionLayout a = members_called s (ends_of p things) things kind.Union a
any_name_called s p things name.ArrayLayout a = layouts.array_called s (ends_of p things) things a
any_name_called s p things n a = name_called s p things n a

-- of a thing by its number
abbrev pub thing_called : Seen → Pooled → List Thing → Hw → Option Thing → Arguments → Result Plan Cause
thing_called s p things h (Some (thing.Name n)) a = any_name_called s p things n a
thing_called s p things h (Some (thing.Layout l)) a = layout_called p things h l a
thing_called s p things h (Some (thing.Method of e m)) a = method_called s p things e m a
thing_called s p things h t a = Err Raised

-- ---- `shape` of a value of an enumeration is that enumeration

abbrev pub numbered : Option Thing → Option Hw
numbered (Some (thing.Numbered h e)) = Some h
numbered t = None

-- the enumeration of the value whose method `shape` a thing is
abbrev pub own_numbering : List Thing → Option Thing → Option Hw
own_numbering things (Some (thing.Method of e method.Shape)) = numbered (slice_get things of.0)
own_numbering things t = None

abbrev pub unless_numbered : Option Hw → Arguments → Result Plan Cause → Result Plan Cause
unless_numbered (Some h) a others = if fits [] a then Ok (value_given (val.Hw h)) else Err Raised
unless_numbered None a others = others

abbrev pub any_called : Seen → Pooled → List Thing → Hw → Option Thing → Arguments → Result Plan Cause
any_called s p things h t a = unless_numbered (own_numbering things t) a (thing_called s p things h t a)

-- what a call of a thing gives: the thing and its arguments, those of the keywords at the end
abbrev pub called : Seen → Pooled → List Thing → List Val → List (List ℕ) → Result Plan Cause
called s p things (val.Hw h ∷ args) keys = any_called s p things h (slice_get things h.0) (arguments_of args keys)
called s p things vals keys = Err Raised
