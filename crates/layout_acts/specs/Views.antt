-- Views: the value under a layout, and its fields. Amaranth standard library reference 0.5, "Data structures", data views: `view.NAME`, `view["NAME"]`,
-- `view[i]` of an array, `view.as_value()`, `view.eq(x)`, and `layout(target)`. That an index past the end takes the last item, and that `layout(target)`
-- is for a value of the same width alone, are own rules.
use Rattle.std.specs.Prelude.{ℕ, ◌+◌, ◌==◌, ◌||◌, nat_le, nat_lt, Bool, true, if◌then◌else◌, ℤ, List, [], ◌∷◌, ◌++◌, length, position, slice_get, Option, Some, None, Result, Ok, Err, codes}
use Rattle.std.specs.List.{list_any}
use Rattle.std.specs.Option.{option_and_then}
use Rattle.lists.specs.Texts.{text_eq}
use Rattle.shape_rules.specs.Forms.{Form}
use Rattle.data_layouts.specs.declared.field.Field.{Field}
use Rattle.design_ir.specs.declared.ids.ExprId.{ExprId}
use Rattle.design_ir.specs.declared.expr.Expr.{Expr}
use Rattle.design_ir.specs.declared.expr.Expr.TheVariants.{Slice, Cast, Pick}
use Rattle.design_ir.specs.Pools.{Pooled}
use Rattle.design_ir.specs.Values.{form}
use Rattle.py_values.specs.declared.val.Hw.{Hw}
use Rattle.py_values.specs.declared.val.Val.{Val}
use Rattle.py_values.specs.declared.val.Val.TheVariants as val
use Rattle.py_heap.specs.Changes.{index_place}
use Rattle.py_heap.specs.Heaps.{Seen, text_at}
use Rattle.py_values.specs.Numbers.{number_of}
use Rattle.py_frames.specs.declared.request.Answer.TheVariants as answer
use Rattle.py_frames.specs.declared.request.Cause.{Cause}
use Rattle.py_frames.specs.declared.request.Cause.TheVariants.{Raised}
use Rattle.amh_things.specs.declared.thing.LayoutThing.{LayoutThing}
use Rattle.amh_things.specs.declared.thing.Method.TheVariants as method
use Rattle.amh_things.specs.declared.thing.Reading.{Reading}
use Rattle.amh_things.specs.declared.thing.Thing.{Thing}
use Rattle.amh_things.specs.declared.thing.Thing.TheVariants as thing
use Rattle.amh_things.specs.declared.operand.Operand.{Operand}
use Rattle.amh_things.specs.Ends.{Ends}
use Rattle.amh_things.specs.declared.plan.Plan.{Plan}
use Rattle.amh_things.specs.Things.{held_expr, shown_layout, read_as}
use Rattle.amh_things.specs.Operands.{operand_of, operand_form, operand_constants, operand_id}
use Rattle.amh_things.specs.Plans.{ends_of, read_made, thing_made}
use Rattle.amh_things.specs.Arguments.{Arguments, argument, fits}
use Rattle.layout_acts.specs.declared.fields.FieldRead.{FieldRead}

-- ---- the fields of a layout, each with what it is read as

abbrev pub field_with : Option Field → Option Reading → Option FieldRead
field_with (Some f) (Some r) = Some (record { low = f.low; shape = f.shape; reading = r })
field_with None r = None
field_with (Some f) None = None

abbrev pub field_read : LayoutThing → ℕ → Option FieldRead
field_read l i = field_with (slice_get l.layout.fields i) (slice_get l.readings i)

-- the items of an array have no names
abbrev pub field_named : LayoutThing → List ℕ → Option FieldRead
field_named l name =
    if l.is_array then None else option_and_then (field_read l) (position (λ (f : Field). text_eq f.name name) l.layout.fields)

-- Python's place of an index, counted from the end where it is negative; an array alone has places
abbrev pub field_at : LayoutThing → Option ℤ → Option FieldRead
field_at l n =
    if l.is_array then option_and_then (field_read l) (option_and_then (index_place (length l.layout.fields)) n) else None

-- ---- the bits of a field as a number: a slice, and over it a cast where the shape has a sign

-- the expressions, where the next one gets number k
abbrev pub field_exprs : ExprId → ℕ → Form → ℕ → List Expr
field_exprs e low f k = Slice e low f.width ∷ (if f.signed then Cast (record { 0 = k }) true ∷ [] else [])

-- the last one of them
abbrev pub field_id : Form → ℕ → ExprId
field_id f k = record { 0 = if f.signed then k + 1 else k }

abbrev pub field_count : Form → ℕ
field_count f = if f.signed then 2 else 1

abbrev pub field_plan : Ends → ExprId → FieldRead → Plan
field_plan ends e f = record {
  exprs = field_exprs e f.low f.shape ends.exprs;
  things = read_as f.reading (field_id f.shape ends.exprs) ∷ [];
  answer = answer.Give (val.Hw (record { 0 = ends.things }));
}

-- a field lies within the value: of what makes no views, one that did not raises
abbrev pub field_made : Pooled → List Thing → ExprId → Option FieldRead → Result Plan Cause
field_made p things e None = Err Raised
field_made p things e (Some f) =
    if nat_le (f.low + f.shape.width) (form p e.0).width then Ok (field_plan (ends_of p things) e f) else Err Raised

-- ---- the item of an array that a value chooses

-- the items one after the other, which have one shape
abbrev pub item_exprs : ExprId → Form → ℕ → List Field → List Expr
item_exprs e f k [] = []
item_exprs e f k (x ∷ xs) = field_exprs e x.low f k ++ item_exprs e f (k + field_count f) xs

abbrev pub item_ids : Form → ℕ → List Field → List ExprId
item_ids f k [] = []
item_ids f k (x ∷ xs) = field_id f k ∷ item_ids f (k + field_count f) xs

abbrev pub item_plan : Ends → ExprId → Form → Reading → ExprId → List Field → Plan
item_plan ends e f r i xs = read_made ends r (item_exprs e f ends.exprs xs) (Pick i (item_ids f ends.exprs xs))

-- an item that does not lie within the value; no array has one
abbrev pub is_outside : ℕ → ℕ → Field → Bool
is_outside width item x = nat_lt width (x.low + item)

-- an array has at most 255 items
abbrev pub is_unpickable : ℕ → ℕ → List Field → Bool
is_unpickable width item xs = nat_lt 255 (length xs) || list_any (is_outside width item) xs

-- an empty array and a signed index raise
abbrev pub picked_where : Pooled → List Thing → ExprId → ExprId → List Field → Option FieldRead → Result Plan Cause
picked_where p things e i xs None = Err Raised
picked_where p things e i xs (Some first) =
    if (form p i.0).signed || is_unpickable (form p e.0).width first.shape.width xs then Err Raised
    else Ok (item_plan (ends_of p things) e first.shape first.reading i xs)

abbrev pub item_picked : Pooled → List Thing → LayoutThing → ExprId → Option ExprId → Result Plan Cause
item_picked p things l e None = Err Raised
item_picked p things l e (Some i) = if l.is_array then picked_where p things e i l.layout.fields (field_read l 0) else Err Raised

-- ---- `view["NAME"]`, and `view[i]` of an array

abbrev pub view_indexed : Seen → Pooled → List Thing → LayoutThing → ExprId → List Val → Result Plan Cause
view_indexed s p things l e (val.Hw h ∷ []) = item_picked p things l e (held_expr (slice_get things h.0))
view_indexed s p things l e (val.Str x ∷ []) = field_made p things e (field_named l (text_at s x.0))
view_indexed s p things l e (i ∷ []) = field_made p things e (field_at l (number_of i))
view_indexed s p things l e vals = Err Raised

abbrev pub indexed_where : Seen → Pooled → List Thing → Option LayoutThing → ExprId → List Val → Result Plan Cause
indexed_where s p things None e vals = Err Raised
indexed_where s p things (Some l) e vals = view_indexed s p things l e vals

-- of the layout at a number, and the value under the view
abbrev pub indexed : Seen → Pooled → List Thing → Hw × ExprId → List Val → Result Plan Cause
indexed s p things v vals = indexed_where s p things (shown_layout (slice_get things v.0.0)) v.1 vals

-- ---- `view.NAME`: the two methods first, and then the fields

abbrev pub field_given : Pooled → List Thing → Option LayoutThing → ExprId → List ℕ → Result Plan Cause
field_given p things None e name = Err Raised
field_given p things (Some l) e name = field_made p things e (field_named l name)

abbrev pub attributed : Pooled → List Thing → Hw → Hw × ExprId → List ℕ → Result Plan Cause
attributed p things h v name =
    if text_eq name (codes "as_value") then Ok (thing_made (ends_of p things) (thing.Method h v.1 method.AsValue))
    else (if text_eq name (codes "eq") then Ok (thing_made (ends_of p things) (thing.Method h v.1 method.Eq))
    else field_given p things (shown_layout (slice_get things v.0.0)) v.1 name)

-- ---- `layout(target)`: a view of the value that the target is, which has the layout's width

abbrev pub view_plan : Ends → Hw → Operand → Plan
view_plan ends h x = record {
  exprs = operand_constants x;
  things = thing.View h (operand_id ends.exprs x) ∷ [];
  answer = answer.Give (val.Hw (record { 0 = ends.things }));
}

abbrev pub viewed : Ends → Hw → ℕ → Option Operand → Result Plan Cause
viewed ends h width None = Err Raised
viewed ends h width (Some x) = if (operand_form x).width == width then Ok (view_plan ends h x) else Err Raised

abbrev pub target_of : Pooled → List Thing → Option Val → Option Operand
target_of p things None = None
target_of p things (Some v) = operand_of p things v

abbrev pub target_parameters : List (List ℕ)
target_parameters = codes "target" ∷ []

abbrev pub layout_called : Pooled → List Thing → Hw → LayoutThing → Arguments → Result Plan Cause
layout_called p things h l a =
    if fits target_parameters a then viewed (ends_of p things) h l.layout.width (target_of p things (argument a 0 (codes "target"))) else Err Raised
