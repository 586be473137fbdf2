-- Samples of layouts and views, computed.
use Rattle.std.specs.Prelude.{◌≡◌, refl, ℕ, true, false, List, [], ◌∷◌, pos, negsuc, Ok, Err, codes}
use Rattle.std.specs.Fmt.{digits}
use Rattle.shape_rules.specs.Forms.{Form, unsigned, signed_form}
use Rattle.identifiers.proofs.Computing.{identifiers}
use Rattle.data_layouts.specs.declared.field.Field.{Field}
use Rattle.design_ir.specs.declared.signal.Sig.{Sig}
use Rattle.design_ir.specs.declared.expr.Expr.TheVariants as expr
use Rattle.design_ir.specs.Pools.{Pooled}
use Rattle.design_ir.specs.Values.{form}
use Rattle.py_heap.specs.Heaps.{Seen, Made, seen, nothing}
use Rattle.py_builtins.specs.Scalars.{first_from}
use Rattle.py_values.specs.declared.val.Val.{Val}
use Rattle.py_values.specs.declared.val.Val.TheVariants as val
use Rattle.py_frames.specs.declared.request.Answer.TheVariants as answer
use Rattle.py_frames.specs.declared.request.Cause.TheVariants as cause
use Rattle.amh_things.specs.declared.thing.LayoutThing.{LayoutThing}
use Rattle.amh_things.specs.declared.thing.Method.TheVariants as method
use Rattle.amh_things.specs.declared.thing.Reading.TheVariants as reading
use Rattle.amh_things.specs.declared.thing.Thing.{Thing}
use Rattle.amh_things.specs.declared.thing.Thing.TheVariants as thing
use Rattle.amh_things.specs.declared.thing.ThingName.TheVariants as name
use Rattle.amh_things.specs.Ends.{Ends}
use Rattle.layout_acts.specs.StructClasses.{class_made}
use Rattle.amh_values.specs.Attributes.{attributed}
use Rattle.amh_values.specs.Calls.{called}
use Rattle.amh_values.specs.Indexing.{any_indexed}

hw : ℕ → Val
hw n = val.Hw (record { 0 = n })

id : ℕ → Val
id n = val.Str (record { 0 = n })

field : List ℕ → ℕ → Form → Field
field n low f = record { name = n; low = low; shape = f }

class : Val
class = val.Class (record { 0 = 0 })

-- ---- the heap: names of fields, and a dict from `a` to 3 and from `b` to 8

made : Made
made = record nothing { texts = codes "a" ∷ codes "b" ∷ codes "val" ∷ codes "x y" ∷ []; rows = (id 0 ∷ val.Int (pos 3) ∷ id 1 ∷ val.Int (pos 8) ∷ []) ∷ (id 3 ∷ val.Int (pos 129) ∷ []) ∷ (id 0 ∷ val.Int (pos 128) ∷ id 1 ∷ val.Int (pos 1) ∷ []) ∷ [] }

heap : Seen
heap = seen nothing made

-- ---- the things: names, `Op` with two bits, `Cmd` with `op` of Op and `val` of four bits and a sign, a view of it over a value of 6 bits, an array of
-- three items of 5 bits, a view of it over a value of 15 bits, an index of 2 bits, a pair of `Cmd`s named `a` and `b`, and a view of it over 12 bits

op_enumeration : Thing
op_enumeration = thing.Enumeration (record { shape = unsigned 2; members = [] })

cmd : LayoutThing
cmd = record {
  layout = record { fields = field (codes "op") 0 (unsigned 2) ∷ field (codes "val") 2 (signed_form 4) ∷ []; width = 6 };
  readings = reading.Numbered (record { 0 = 4 }) ∷ reading.Plain ∷ [];
  is_array = false;
}

three_of_five : LayoutThing
three_of_five = record {
  layout = record { fields = field (codes "0") 0 (unsigned 5) ∷ field (codes "1") 5 (unsigned 5) ∷ field (codes "2") 10 (unsigned 5) ∷ []; width = 15 };
  readings = reading.Plain ∷ reading.Plain ∷ reading.Plain ∷ [];
  is_array = true;
}

pair : LayoutThing
pair = record {
  layout = record { fields = field (codes "a") 0 (unsigned 6) ∷ field (codes "b") 6 (unsigned 6) ∷ []; width = 12 };
  readings = reading.Viewed (record { 0 = 6 }) ∷ reading.Viewed (record { 0 = 6 }) ∷ [];
  is_array = false;
}

things : List Thing
things =
    thing.Name name.Struct ∷ thing.Name name.StructLayout ∷ thing.Name name.UnionLayout ∷ thing.Name name.ArrayLayout ∷ op_enumeration ∷ thing.Shape (signed_form 4) ∷ thing.Layout cmd
    ∷ thing.View (record { 0 = 6 }) (record { 0 = 0 }) ∷ thing.Layout three_of_five ∷ thing.View (record { 0 = 8 }) (record { 0 = 1 }) ∷ thing.Value (record { 0 = 2 }) ∷ thing.Layout pair
    ∷ thing.View (record { 0 = 11 }) (record { 0 = 3 }) ∷ []

signal : ℕ → Sig
signal width = record { name = codes "s"; shape = unsigned width; init = pos 0; reset_less = false }

pool : Pooled
pool = record {
  signals = signal 6 ∷ signal 15 ∷ signal 2 ∷ signal 12 ∷ [];
  exprs = expr.Sig (record { 0 = 0 }) ∷ expr.Sig (record { 0 = 1 }) ∷ expr.Sig (record { 0 = 2 }) ∷ expr.Sig (record { 0 = 3 }) ∷ [];
}

ends : Ends
ends = record { exprs = 4; things = 13 }

-- ---- layouts

-- `class Cmd(data.Struct)` with `op: Op` and `val: signed(4)`
cmd_made : class_made heap ends things (class ∷ hw 0 ∷ hw 4 ∷ hw 5 ∷ []) (codes "Cmd" ∷ codes ":op" ∷ codes ":val" ∷ [])
    ≡ Ok (record { exprs = []; things = thing.Layout cmd ∷ []; answer = answer.Give (hw 13) })
unfolding identifiers heap made id hw class things ends cmd field op_enumeration three_of_five pair
cmd_made = refl

-- a binding raises, and so do a keyword, and a name that stands twice
binding_raises : class_made heap ends things (class ∷ hw 0 ∷ hw 4 ∷ val.Int (pos 1) ∷ []) (codes "Cmd" ∷ codes ":op" ∷ codes ".op" ∷ []) ≡ Err cause.Raised
unfolding heap made id hw class things ends cmd field op_enumeration three_of_five pair
binding_raises = refl

twice_raises : class_made heap ends things (class ∷ hw 0 ∷ val.Int (pos 128) ∷ val.Int (pos 129) ∷ []) (codes "Cmd" ∷ codes ":op" ∷ codes ":op" ∷ []) ≡ Err cause.Raised
unfolding identifiers heap made id hw class things ends cmd field op_enumeration three_of_five pair
twice_raises = refl

-- `UnionLayout({"a": 3, "b": 8})` has 8 bits
union_is : called heap pool things (hw 2 ∷ val.Dict (record { 0 = 0 }) ∷ []) []
    ≡ Ok (record {
      exprs = [];
      things = thing.Layout (record { layout = record { fields = field (codes "a") 0 (unsigned 3) ∷ field (codes "b") 0 (unsigned 8) ∷ []; width = 8 }; readings = reading.Plain ∷ reading.Plain ∷ []; is_array = false }) ∷ [];
      answer = answer.Give (hw 13);
    })
unfolding identifiers heap made id hw things pool cmd field op_enumeration three_of_five pair
union_is = refl

-- `ArrayLayout(5, 3)` has 15 bits
array_is : called heap pool things (hw 3 ∷ val.Int (pos 5) ∷ val.Int (pos 3) ∷ []) []
    ≡ Ok (record { exprs = []; things = thing.Layout three_of_five ∷ []; answer = answer.Give (hw 13) })
unfolding heap made id hw things pool cmd field op_enumeration three_of_five pair digits
array_is = refl

-- a name with a blank raises before the width of its shape is told, and 129 bits together are too wide
no_name : called heap pool things (hw 1 ∷ val.Dict (record { 0 = 1 }) ∷ []) [] ≡ Err cause.Raised
unfolding identifiers heap made id hw things pool cmd field op_enumeration three_of_five pair
no_name = refl

too_wide : called heap pool things (hw 1 ∷ val.Dict (record { 0 = 2 }) ∷ []) [] ≡ Err cause.Width
unfolding identifiers heap made id hw things pool cmd field op_enumeration three_of_five pair
too_wide = refl

-- 256 items without bits raise, 129 with one are too wide, and a length below 0 raises
many_items : called heap pool things (hw 3 ∷ val.Int (pos 0) ∷ val.Int (pos 256) ∷ []) [] ≡ Err cause.Raised
unfolding heap made id hw things pool cmd field op_enumeration three_of_five pair
many_items = refl

wide_items : called heap pool things (hw 3 ∷ val.Int (pos 1) ∷ val.Int (pos 256) ∷ []) [] ≡ Err cause.Width
unfolding heap made id hw things pool cmd field op_enumeration three_of_five pair
wide_items = refl

no_length : called heap pool things (hw 3 ∷ val.Int (pos 129) ∷ val.Int (negsuc 0) ∷ []) [] ≡ Err cause.Raised
unfolding heap made id hw things pool cmd field op_enumeration three_of_five pair
no_length = refl

-- ---- fields of `c`, a view of `Cmd`

-- `c.op` is the lowest two bits, as a value of Op
op_is : attributed pool things (hw 7 ∷ []) (codes "op")
    ≡ Ok (record { exprs = expr.Slice (record { 0 = 0 }) 0 2 ∷ []; things = thing.Numbered (record { 0 = 4 }) (record { 0 = 4 }) ∷ []; answer = answer.Give (hw 13) })
unfolding hw things pool signal cmd field op_enumeration three_of_five pair form
op_is = refl

-- `c["val"]` is the four bits above, with their sign
val_is : any_indexed heap pool things (hw 7 ∷ id 2 ∷ [])
    ≡ Ok (record {
      exprs = expr.Slice (record { 0 = 0 }) 2 4 ∷ expr.Cast (record { 0 = 4 }) true ∷ [];
      things = thing.Value (record { 0 = 5 }) ∷ [];
      answer = answer.Give (hw 13);
    })
unfolding heap made id hw things pool signal cmd field op_enumeration three_of_five pair form
val_is = refl

-- `c.as_value` is a method, whose call gives the value under the view
method_is : attributed pool things (hw 7 ∷ []) (codes "as_value")
    ≡ Ok (record { exprs = []; things = thing.Method (record { 0 = 7 }) (record { 0 = 0 }) method.AsValue ∷ []; answer = answer.Give (hw 13) })
unfolding hw things pool signal cmd field op_enumeration three_of_five pair
method_is = refl

as_value_is : called heap pool (thing.Method (record { 0 = 7 }) (record { 0 = 0 }) method.AsValue ∷ []) (hw 0 ∷ []) []
    ≡ Ok (record { exprs = []; things = thing.Value (record { 0 = 0 }) ∷ []; answer = answer.Give (hw 1) })
unfolding heap made id hw pool signal form
as_value_is = refl

-- a structure has no places, and no field of another name
no_place : any_indexed heap pool things (hw 7 ∷ val.Int (pos 0) ∷ []) ≡ Err cause.Raised
unfolding heap made id hw things pool signal cmd field op_enumeration three_of_five pair form
no_place = refl

no_field : attributed pool things (hw 7 ∷ []) (codes "any") ≡ Err cause.Raised
unfolding hw things pool signal cmd field op_enumeration three_of_five pair form
no_field = refl

-- ---- items of an array

-- the last item, counted from the end
last_is : any_indexed heap pool things (hw 9 ∷ val.Int (negsuc 0) ∷ [])
    ≡ Ok (record { exprs = expr.Slice (record { 0 = 1 }) 10 5 ∷ []; things = thing.Value (record { 0 = 4 }) ∷ []; answer = answer.Give (hw 13) })
unfolding heap made id hw things pool signal cmd field op_enumeration three_of_five pair form
last_is = refl

-- the item that a value chooses
chosen_is : any_indexed heap pool things (hw 9 ∷ hw 10 ∷ [])
    ≡ Ok (record {
      exprs = expr.Slice (record { 0 = 1 }) 0 5 ∷ expr.Slice (record { 0 = 1 }) 5 5 ∷ expr.Slice (record { 0 = 1 }) 10 5
          ∷ expr.Pick (record { 0 = 2 }) (record { 0 = 4 } ∷ record { 0 = 5 } ∷ record { 0 = 6 } ∷ []) ∷ [];
      things = thing.Value (record { 0 = 7 }) ∷ [];
      answer = answer.Give (hw 13);
    })
unfolding heap made id hw things pool signal cmd field op_enumeration three_of_five pair form
chosen_is = refl

past_the_end : any_indexed heap pool things (hw 9 ∷ val.Int (pos 3) ∷ []) ≡ Err cause.Raised
unfolding heap made id hw things pool signal cmd field op_enumeration three_of_five pair form
past_the_end = refl

-- ---- a structure in a structure: its field is a view again

nested_is : attributed pool things (hw 12 ∷ []) (codes "b")
    ≡ Ok (record { exprs = expr.Slice (record { 0 = 3 }) 6 6 ∷ []; things = thing.View (record { 0 = 6 }) (record { 0 = 4 }) ∷ []; answer = answer.Give (hw 13) })
unfolding hw things pool signal cmd field op_enumeration three_of_five pair form
nested_is = refl

-- ---- `Cmd(target)`

-- of a view of the same width, and no expression is made
called_is : called heap pool things (hw 6 ∷ hw 7 ∷ []) []
    ≡ Ok (record { exprs = []; things = thing.View (record { 0 = 6 }) (record { 0 = 0 }) ∷ []; answer = answer.Give (hw 13) })
unfolding heap made id hw things pool signal cmd field op_enumeration three_of_five pair form
called_is = refl

-- 54 has 6 bits as a constant
number_is : called heap pool things (hw 6 ∷ val.Int (pos 54) ∷ []) []
    ≡ Ok (record { exprs = expr.Const (pos 54) (unsigned 6) ∷ []; things = thing.View (record { 0 = 6 }) (record { 0 = 4 }) ∷ []; answer = answer.Give (hw 13) })
unfolding heap made id hw things pool signal cmd field op_enumeration three_of_five pair form first_from
number_is = refl

other_width : called heap pool things (hw 6 ∷ hw 9 ∷ []) [] ≡ Err cause.Raised
unfolding heap made id hw things pool signal cmd field op_enumeration three_of_five pair form
other_width = refl
