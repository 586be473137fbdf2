-- Samples of the definitions, computed.
use Rattle.std.specs.Prelude.{◌≡◌, refl, ℕ, true, false, List, [], ◌∷◌, pos, negsuc, Some, None, Ok, Err, codes}
use Rattle.shape_rules.specs.Forms.{unsigned, signed_form}
use Rattle.shape_rules.specs.declared.op.Op.TheVariants as op
use Rattle.design_ir.specs.declared.signal.Sig.{Sig}
use Rattle.design_ir.specs.declared.expr.Expr.TheVariants as expr
use Rattle.design_ir.specs.Pools.{Pooled}
use Rattle.py_values.specs.declared.val.Val.{Val}
use Rattle.py_values.specs.declared.val.Val.TheVariants as val
use Rattle.py_frames.specs.declared.request.Act.TheVariants as act
use Rattle.py_frames.specs.declared.request.Answer.TheVariants as answer
use Rattle.py_frames.specs.declared.request.Cause.TheVariants as cause
use Rattle.amh_things.specs.declared.thing.Thing.{Thing}
use Rattle.amh_things.specs.declared.thing.Thing.TheVariants as thing
use Rattle.amh_things.specs.declared.thing.Method.TheVariants as method
use Rattle.design_ir.specs.Values.{form}
use Rattle.amh_things.specs.Operands.{constant_form}
use Rattle.py_builtins.specs.Scalars.{first_from}
use Rattle.value_acts.specs.Operators.{binary_operator, unary_operator, operated}
use Rattle.amh_values.specs.Attributes.{attributed}
use Rattle.amh_things.specs.Arguments.{Arguments, fits}
use Rattle.value_acts.specs.Names.{constant_called, mux_called}
use Rattle.value_acts.specs.Joins.{cat_called}
use Rattle.value_acts.specs.Arrays.{array_called}
use Rattle.py_heap.specs.Heaps.{Seen, seen, nothing}
use Rattle.value_acts.specs.Selections.{replicate_called, select_called}
use Rattle.value_acts.specs.Indices.{indexed, measured}
use Rattle.py_operators.specs.Spans.{numbers_from}
use Rattle.amh_things.specs.Meant.{shape_meant}
use Rattle.amh_values.specs.Acts.{is_other}

-- ---- constants: 0 has one bit, 5 has three, -1 has one with a sign, and -5 four

zero_form : constant_form (pos 0) ≡ unsigned 1
unfolding first_from
zero_form = refl

five_form : constant_form (pos 5) ≡ unsigned 3
unfolding first_from
five_form = refl

minus_one_form : constant_form (negsuc 0) ≡ signed_form 1
unfolding first_from
minus_one_form = refl

minus_five_form : constant_form (negsuc 4) ≡ signed_form 4
unfolding first_from
minus_five_form = refl

-- ---- signs

plus_is : binary_operator (codes "+") ≡ Some op.Add
plus_is = refl

plus_equal_is : binary_operator (codes "+=") ≡ Some op.Add
plus_equal_is = refl

shift_equal_is : binary_operator (codes "<<=") ≡ Some op.Shl
shift_equal_is = refl

at_most_is : binary_operator (codes "<=") ≡ Some op.Le
at_most_is = refl

power_is : binary_operator (codes "**") ≡ None
power_is = refl

unary_plus_is : unary_operator (codes "+") ≡ None
unary_plus_is = refl

-- ---- a pool with a signal of 8 bits and one of 128, and the values of both

signal : List ℕ → ℕ → Sig
signal name width = record { name = name; shape = unsigned width; init = pos 0; reset_less = false }

pool : Pooled
pool = record {
  signals = signal (codes "a") 8 ∷ signal (codes "b") 128 ∷ [];
  exprs = expr.Sig (record { 0 = 0 }) ∷ expr.Sig (record { 0 = 1 }) ∷ [];
}

things : List Thing
things = thing.Value (record { 0 = 0 }) ∷ thing.Value (record { 0 = 1 }) ∷ thing.Kept 7 ∷ thing.Shape (signed_form 3) ∷ thing.Method (record { 0 = 0 }) (record { 0 = 0 }) method.Eq ∷ []

hw : ℕ → Val
hw n = val.Hw (record { 0 = n })

-- `a + 1` makes a constant and the sum, which is expression 3 and thing 5
sum_is : operated pool things (hw 0 ∷ val.Int (pos 1) ∷ []) (codes "+")
    ≡ Ok (record {
      exprs = expr.Const (pos 1) (unsigned 1) ∷ expr.Binary op.Add (record { 0 = 0 }) (record { 0 = 2 }) ∷ [];
      things = thing.Value (record { 0 = 3 }) ∷ [];
      answer = answer.Give (hw 5);
    })
unfolding pool signal things hw form first_from
sum_is = refl

-- `1 - a` has its operands in the order of the program
difference_is : operated pool things (val.Bool true ∷ hw 0 ∷ []) (codes "-")
    ≡ Ok (record {
      exprs = expr.Const (pos 1) (unsigned 1) ∷ expr.Binary op.Sub (record { 0 = 2 }) (record { 0 = 0 }) ∷ [];
      things = thing.Value (record { 0 = 3 }) ∷ [];
      answer = answer.Give (hw 5);
    })
unfolding pool signal things hw form first_from
difference_is = refl

-- the sum of two values of 128 bits would have 129
wide_sum : operated pool things (hw 1 ∷ hw 1 ∷ []) (codes "+") ≡ Err cause.Width
unfolding pool signal things hw form
wide_sum = refl

-- a shift amount below 0 raises, before its width is looked at
bad_shift : operated pool things (hw 1 ∷ val.Int (negsuc 0) ∷ []) (codes "<<") ≡ Err cause.Raised
unfolding pool signal things hw form first_from
bad_shift = refl

-- a shape is no operand
shape_operand : operated pool things (hw 0 ∷ hw 3 ∷ []) (codes "==") ≡ Err cause.Raised
unfolding pool signal things hw form
shape_operand = refl

-- ---- attributes and calls

method_is : attributed pool things (hw 0 ∷ []) (codes "any")
    ≡ Ok (record { exprs = []; things = thing.Method (record { 0 = 0 }) (record { 0 = 0 }) method.Any ∷ []; answer = answer.Give (hw 5) })
unfolding pool signal things hw
method_is = refl

no_width : attributed pool things (hw 0 ∷ []) (codes "width") ≡ Err cause.Raised
unfolding pool signal things hw
no_width = refl

length_is : measured pool things (hw 1 ∷ []) ≡ Ok (record { exprs = []; things = []; answer = answer.Give (val.Int (pos 128)) })
unfolding pool signal things hw form
length_is = refl

-- ---- indices and slices of the value of 8 bits

bit_is : indexed pool things (hw 0 ∷ val.Int (negsuc 0) ∷ [])
    ≡ Ok (record { exprs = expr.Slice (record { 0 = 0 }) 7 1 ∷ []; things = thing.Value (record { 0 = 2 }) ∷ []; answer = answer.Give (hw 5) })
unfolding pool signal things hw form
bit_is = refl

bit_past : indexed pool things (hw 0 ∷ val.Int (pos 8) ∷ []) ≡ Err cause.Raised
unfolding pool signal things hw form
bit_past = refl

-- `a[2:5]` is one run, and `a[0:0]` one of no bits
run_is : indexed pool things (hw 0 ∷ val.Int (pos 2) ∷ val.Int (pos 5) ∷ val.None ∷ [])
    ≡ Ok (record { exprs = expr.Slice (record { 0 = 0 }) 2 3 ∷ []; things = thing.Value (record { 0 = 2 }) ∷ []; answer = answer.Give (hw 5) })
unfolding pool signal things hw form numbers_from
run_is = refl

no_run : indexed pool things (hw 0 ∷ val.Int (pos 0) ∷ val.Int (pos 0) ∷ val.None ∷ [])
    ≡ Ok (record { exprs = expr.Slice (record { 0 = 0 }) 0 0 ∷ []; things = thing.Value (record { 0 = 2 }) ∷ []; answer = answer.Give (hw 5) })
unfolding pool signal things hw form numbers_from
no_run = refl

-- `a[::-3]` has the bits 7, 4 and 1, the first the lowest
turned_bits : indexed pool things (hw 0 ∷ val.None ∷ val.None ∷ val.Int (negsuc 2) ∷ [])
    ≡ Ok (record {
      exprs = expr.Slice (record { 0 = 0 }) 7 1 ∷ expr.Slice (record { 0 = 0 }) 4 1 ∷ expr.Slice (record { 0 = 0 }) 1 1
          ∷ expr.Cat (record { 0 = 2 } ∷ record { 0 = 3 } ∷ record { 0 = 4 } ∷ []) ∷ [];
      things = thing.Value (record { 0 = 5 }) ∷ [];
      answer = answer.Give (hw 5);
    })
unfolding pool signal things hw form numbers_from
turned_bits = refl

no_step : indexed pool things (hw 0 ∷ val.None ∷ val.None ∷ val.Int (pos 0) ∷ []) ≡ Err cause.Raised
unfolding pool signal things hw form
no_step = refl

-- ---- calls

arguments : List Val → Arguments
arguments vals = record { positional = vals; named = []; keys = [] }

-- the list `[a, 5]` is row 0 of the heap
none_seen : Seen
none_seen = seen nothing (record nothing { rows = (hw 0 ∷ val.Int (pos 5) ∷ []) ∷ [] })

-- `Const(-1, shape=4)` is 15
wrapped_constant : constant_called none_seen (record { exprs = 2; things = 5 }) things (record { positional = val.Int (negsuc 0) ∷ []; named = val.Int (pos 4) ∷ []; keys = codes "shape" ∷ [] })
    ≡ Ok (record { exprs = expr.Const (pos 15) (unsigned 4) ∷ []; things = thing.Value (record { 0 = 2 }) ∷ []; answer = answer.Give (hw 5) })
unfolding none_seen things hw
wrapped_constant = refl

-- a parameter that is given twice, and a keyword that is none
twice_given : fits (codes "value" ∷ codes "shape" ∷ []) (record { positional = val.Int (pos 1) ∷ []; named = val.Int (pos 1) ∷ []; keys = codes "value" ∷ [] }) ≡ false
twice_given = refl

no_parameter : fits (codes "width" ∷ []) (record { positional = []; named = val.Int (pos 1) ∷ []; keys = codes "height" ∷ [] }) ≡ false
no_parameter = refl

-- `Mux(a, 1, 0)`
choice_is : mux_called pool things (arguments (hw 0 ∷ val.Int (pos 1) ∷ val.Int (pos 0) ∷ []))
    ≡ Ok (record {
      exprs = expr.Const (pos 1) (unsigned 1) ∷ expr.Const (pos 0) (unsigned 1) ∷ expr.Mux (record { 0 = 0 }) (record { 0 = 2 }) (record { 0 = 3 }) ∷ [];
      things = thing.Value (record { 0 = 4 }) ∷ [];
      answer = answer.Give (hw 5);
    })
unfolding pool signal things hw form first_from arguments
choice_is = refl

-- `b.bit_select(a, 4)` and `b.word_select(a, 4)`
part_is : select_called pool things (record { 0 = 1 }) false (arguments (hw 0 ∷ val.Int (pos 4) ∷ []))
    ≡ Ok (record { exprs = expr.Part (record { 0 = 1 }) (record { 0 = 0 }) 4 1 ∷ []; things = thing.Value (record { 0 = 2 }) ∷ []; answer = answer.Give (hw 5) })
unfolding pool signal things hw form arguments
part_is = refl

word_is : select_called pool things (record { 0 = 1 }) true (arguments (hw 0 ∷ val.Int (pos 4) ∷ []))
    ≡ Ok (record { exprs = expr.Part (record { 0 = 1 }) (record { 0 = 0 }) 4 4 ∷ []; things = thing.Value (record { 0 = 2 }) ∷ []; answer = answer.Give (hw 5) })
unfolding pool signal things hw form arguments
word_is = refl

-- an offset below 0 is of a signed shape
signed_offset : select_called pool things (record { 0 = 1 }) false (arguments (val.Int (negsuc 0) ∷ val.Int (pos 129) ∷ [])) ≡ Err cause.Raised
unfolding pool signal things form first_from arguments
signed_offset = refl

-- `a.replicate(2)`, and 17 copies of 8 bits
copies_are : replicate_called (record { exprs = 2; things = 5 }) (record { 0 = 0 }) 8 (arguments (val.Int (pos 2) ∷ []))
    ≡ Ok (record { exprs = expr.Cat (record { 0 = 0 } ∷ record { 0 = 0 } ∷ []) ∷ []; things = thing.Value (record { 0 = 2 }) ∷ []; answer = answer.Give (hw 5) })
unfolding hw arguments
copies_are = refl

wide_copies : replicate_called (record { exprs = 2; things = 5 }) (record { 0 = 0 }) 8 (arguments (val.Int (pos 17) ∷ [])) ≡ Err cause.Width
unfolding arguments
wide_copies = refl

-- ---- `Cat`: of the 8 bits of a, no bits of a, and what `Cat()` gives; the list `[a, 5]`; 129 bits; and None

narrow_pool : Pooled
narrow_pool = record pool { exprs = expr.Sig (record { 0 = 0 }) ∷ expr.Slice (record { 0 = 0 }) 0 0 ∷ expr.Cat [] ∷ [] }

narrow_things : List Thing
narrow_things = thing.Value (record { 0 = 0 }) ∷ thing.Value (record { 0 = 1 }) ∷ thing.Value (record { 0 = 2 }) ∷ []

joined_is : cat_called none_seen narrow_pool narrow_things (arguments (hw 0 ∷ hw 1 ∷ hw 2 ∷ []))
    ≡ Ok (record { exprs = expr.Cat (record { 0 = 0 } ∷ record { 0 = 1 } ∷ record { 0 = 2 } ∷ []) ∷ []; things = thing.Value (record { 0 = 3 }) ∷ []; answer = answer.Give (hw 3) })
unfolding none_seen narrow_pool narrow_things pool signal hw form arguments
joined_is = refl

joined_list : cat_called none_seen narrow_pool narrow_things (arguments (val.List (record { 0 = 0 }) ∷ hw 0 ∷ []))
    ≡ Ok (record {
      exprs = expr.Const (pos 5) (unsigned 3) ∷ expr.Cat (record { 0 = 0 } ∷ record { 0 = 3 } ∷ record { 0 = 0 } ∷ []) ∷ [];
      things = thing.Value (record { 0 = 4 }) ∷ [];
      answer = answer.Give (hw 3);
    })
unfolding none_seen narrow_pool narrow_things pool signal hw form first_from arguments
joined_list = refl

wide_join : cat_called none_seen pool things (arguments (hw 1 ∷ val.Int (pos 0) ∷ [])) ≡ Err cause.Width
unfolding none_seen pool signal things hw form first_from arguments
wide_join = refl

no_value : cat_called none_seen pool things (arguments (hw 1 ∷ hw 1 ∷ val.None ∷ [])) ≡ Err cause.Raised
unfolding none_seen pool signal things hw form arguments
no_value = refl

-- ---- arrays: `Array([a, 5])` as thing 2, by a number and by the value a of 8 bits

array_things : List Thing
array_things = thing.Value (record { 0 = 0 }) ∷ thing.Value (record { 0 = 1 }) ∷ thing.Array (hw 0 ∷ val.Int (pos 5) ∷ []) ∷ thing.Array [] ∷ []

array_is : array_called none_seen (record { exprs = 2; things = 5 }) (arguments (val.List (record { 0 = 0 }) ∷ []))
    ≡ Ok (record { exprs = []; things = thing.Array (hw 0 ∷ val.Int (pos 5) ∷ []) ∷ []; answer = answer.Give (hw 5) })
unfolding none_seen hw arguments
array_is = refl

last_element : indexed pool array_things (hw 2 ∷ val.Int (negsuc 0) ∷ []) ≡ Ok (record { exprs = []; things = []; answer = answer.Give (val.Int (pos 5)) })
unfolding pool signal array_things hw form
last_element = refl

past_element : indexed pool array_things (hw 2 ∷ val.Int (pos 2) ∷ []) ≡ Err cause.Raised
unfolding pool signal array_things hw form
past_element = refl

chosen_element : indexed pool array_things (hw 2 ∷ hw 0 ∷ [])
    ≡ Ok (record {
      exprs = expr.Const (pos 5) (unsigned 3) ∷ expr.Pick (record { 0 = 0 }) (record { 0 = 0 } ∷ record { 0 = 2 } ∷ []) ∷ [];
      things = thing.Value (record { 0 = 3 }) ∷ [];
      answer = answer.Give (hw 4);
    })
unfolding pool signal array_things hw form first_from
chosen_element = refl

empty_array : indexed pool array_things (hw 3 ∷ hw 0 ∷ []) ≡ Err cause.Raised
unfolding pool signal array_things hw form
empty_array = refl

-- ---- shapes

number_is_shape : shape_meant none_seen things (val.Int (pos 128)) ≡ Ok (unsigned 128)
unfolding none_seen things hw
number_is_shape = refl

wide_shape : shape_meant none_seen things (val.Int (pos 129)) ≡ Err cause.Width
unfolding none_seen things hw
wide_shape = refl

negative_shape : shape_meant none_seen things (val.Int (negsuc 0)) ≡ Err cause.Raised
unfolding none_seen things hw
negative_shape = refl

shape_is_shape : shape_meant none_seen things (hw 3) ≡ Ok (signed_form 3)
unfolding none_seen things hw
shape_is_shape = refl

-- ---- what is of the crate above

kept_is_above : is_other things act.Operator (hw 0 ∷ hw 2 ∷ []) ≡ true
unfolding things hw
kept_is_above = refl

eq_is_above : is_other things act.CallThing (hw 4 ∷ val.Int (pos 1) ∷ []) ≡ true
unfolding things hw
eq_is_above = refl

values_are_here : is_other things act.Operator (hw 0 ∷ hw 1 ∷ []) ≡ false
unfolding things hw
values_are_here = refl
