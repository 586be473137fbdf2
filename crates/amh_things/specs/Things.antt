-- What a thing is: which names are called, which methods values have, and what is read of a thing. Amaranth language guide 0.5,
-- "Shapes", "Values", "Operators".
use Rattle.std.specs.Prelude.{ℕ, if◌then◌else◌, List, Option, Some, None, slice_get, codes}
use Rattle.lists.specs.Texts.{text_eq}
use Rattle.shape_rules.specs.Forms.{Form, unsigned}
use Rattle.data_layouts.specs.Enumerations.{Enumerated}
use Rattle.design_ir.specs.declared.ids.ExprId.{ExprId}
use Rattle.py_values.specs.declared.val.Hw.{Hw}
use Rattle.py_values.specs.declared.val.Val.{Val}
use Rattle.py_values.specs.declared.val.Val.TheVariants as val
use Rattle.amh_things.specs.declared.thing.LayoutThing.{LayoutThing}
use Rattle.amh_things.specs.declared.thing.Reading.{Reading}
use Rattle.amh_things.specs.declared.thing.Reading.TheVariants as reading
use Rattle.amh_things.specs.declared.thing.Thing.{Thing}
use Rattle.amh_things.specs.declared.thing.Thing.TheVariants as thing
use Rattle.amh_things.specs.declared.thing.ThingName.{ThingName}
use Rattle.amh_things.specs.declared.thing.ThingName.TheVariants as name
use Rattle.amh_things.specs.declared.thing.Member.{Member}
use Rattle.amh_things.specs.declared.thing.Method.{Method}
use Rattle.amh_things.specs.declared.thing.Method.TheVariants as method

-- ---- names

-- the names that make shapes, values and arrays
abbrev pub name_called : List ℕ → Option ThingName
name_called n =
    if text_eq n (codes "Const") then Some name.Const
    else (if text_eq n (codes "C") then Some name.C
    else (if text_eq n (codes "Cat") then Some name.Cat
    else (if text_eq n (codes "Mux") then Some name.Mux
    else (if text_eq n (codes "Array") then Some name.Array
    else (if text_eq n (codes "unsigned") then Some name.Unsigned
    else (if text_eq n (codes "signed") then Some name.Signed else None))))))

-- the names that a class stands over where it makes an enumeration
abbrev pub base_called : List ℕ → Option ThingName
base_called n = if text_eq n (codes "Enum") then Some name.Enum else (if text_eq n (codes "IntEnum") then Some name.IntEnum else None)

-- the names of layouts: two that are called with members, one with items, and one that a class stands over
abbrev pub layout_named : List ℕ → Option ThingName
layout_named n =
    if text_eq n (codes "Struct") then Some name.Struct
    else (if text_eq n (codes "StructLayout") then Some name.StructLayout
    else (if text_eq n (codes "UnionLayout") then Some name.UnionLayout
    else (if text_eq n (codes "ArrayLayout") then Some name.ArrayLayout else None)))

-- the methods of a value that take more than a value's bits into account, or arguments
abbrev pub method_with : List ℕ → Option Method
method_with n =
    if text_eq n (codes "shape") then Some method.Shape
    else (if text_eq n (codes "eq") then Some method.Eq
    else (if text_eq n (codes "replicate") then Some method.Replicate
    else (if text_eq n (codes "bit_select") then Some method.BitSelect
    else (if text_eq n (codes "word_select") then Some method.WordSelect
    else (if text_eq n (codes "matches") then Some method.Matches else None)))))

-- the methods of a value
abbrev pub method_named : List ℕ → Option Method
method_named n =
    if text_eq n (codes "bool") then Some method.Bool
    else (if text_eq n (codes "any") then Some method.Any
    else (if text_eq n (codes "all") then Some method.All
    else (if text_eq n (codes "xor") then Some method.Xor
    else (if text_eq n (codes "as_signed") then Some method.AsSigned
    else (if text_eq n (codes "as_unsigned") then Some method.AsUnsigned else method_with n)))))

-- ---- what is read of a thing

-- the thing that a value of the program is, where it is one
abbrev pub thing_of : List Thing → Val → Option Thing
thing_of things (val.Hw h) = slice_get things h.0
thing_of things v = None

-- the number that the crate above keeps
abbrev pub kept_number : Option Thing → Option ℕ
kept_number (Some (thing.Kept n)) = Some n
kept_number t = None

-- the expression that a value stands for, where it is no view: it has methods, a length and bits
abbrev pub bare_expr : Option Thing → Option ExprId
bare_expr (Some (thing.Value e)) = Some e
bare_expr (Some (thing.Numbered of e)) = Some e
bare_expr t = None

-- the expression that a thing stands for where a value is wanted: of a view it is the value under it
abbrev pub held_expr : Option Thing → Option ExprId
held_expr (Some (thing.Value e)) = Some e
held_expr (Some (thing.Numbered of e)) = Some e
held_expr (Some (thing.View of e)) = Some e
held_expr t = None

-- the shape that a thing is: that of an enumeration too, and the bits of a layout
abbrev pub shown_shape : Option Thing → Option Form
shown_shape (Some (thing.Shape f)) = Some f
shown_shape (Some (thing.Enumeration e)) = Some e.shape
shown_shape (Some (thing.Layout l)) = Some (unsigned l.layout.width)
shown_shape t = None

abbrev pub shown_layout : Option Thing → Option LayoutThing
shown_layout (Some (thing.Layout l)) = Some l
shown_layout t = None

-- the layout and the expression of a view
abbrev pub shown_view : Option Thing → Option (Hw × ExprId)
shown_view (Some (thing.View of e)) = Some (of, e)
shown_view t = None

-- ---- what the bits of a value are read as

-- where this thing is the shape by which the value is made
abbrev pub reading_by : Hw → Option Thing → Reading
reading_by h (Some (thing.Enumeration e)) = reading.Numbered h
reading_by h (Some (thing.Layout l)) = reading.Viewed h
reading_by h t = reading.Plain

abbrev pub reading_at : List Thing → Hw → Reading
reading_at things h = reading_by h (slice_get things h.0)

abbrev pub reading_held : List Thing → Option Hw → Reading
reading_held things None = reading.Plain
reading_held things (Some h) = reading_at things h

-- of a value of the program as a shape
abbrev pub reading_given : List Thing → Val → Reading
reading_given things (val.Hw h) = reading_at things h
reading_given things v = reading.Plain

-- where no shape is given, the value is a number of its own
abbrev pub reading_where : List Thing → Option Val → Reading
reading_where things None = reading.Plain
reading_where things (Some v) = reading_given things v

-- the thing that a value is by what it is read as
abbrev pub read_as : Reading → ExprId → Thing
read_as reading.Plain e = thing.Value e
read_as (reading.Numbered h) e = thing.Numbered h e
read_as (reading.Viewed h) e = thing.View h e

abbrev pub shown_enumeration : Option Thing → Option Enumerated
shown_enumeration (Some (thing.Enumeration e)) = Some e
shown_enumeration t = None

abbrev pub shown_member : Option Thing → Option Member
shown_member (Some (thing.Member m)) = Some m
shown_member t = None

-- the name that a thing is
abbrev pub shown_name : Option Thing → Option ThingName
shown_name (Some (thing.Name n)) = Some n
shown_name t = None

-- the elements of an array
abbrev pub shown_array : Option Thing → Option (List Val)
shown_array (Some (thing.Array vals)) = Some vals
shown_array t = None

-- the expression and the method, where a thing is a method of a value
abbrev pub held_method : Option Thing → Option (ExprId × Method)
held_method (Some (thing.Method of e m)) = Some (e, m)
held_method t = None

-- the value whose method `eq` a thing is
abbrev pub eq_target : Option Thing → Option Hw
eq_target (Some (thing.Method of e method.Eq)) = Some of
eq_target t = None
