-- Samples of enumerations, computed.
use Rattle.std.specs.Prelude.{◌≡◌, refl, ℕ, Bool, true, false, List, [], ◌∷◌, ℤ, pos, negsuc, Some, None, Ok, Err, codes}
use Rattle.shape_rules.specs.Forms.{Form, unsigned, signed_form}
use Rattle.shape_rules.specs.declared.op.Op.TheVariants as op
use Rattle.data_layouts.specs.declared.enumeration.NumberedName.{NumberedName}
use Rattle.data_layouts.specs.Enumerations.{is_of}
use Rattle.design_ir.specs.declared.expr.Expr.TheVariants as expr
use Rattle.design_ir.specs.Pools.{Pooled}
use Rattle.design_ir.specs.Values.{form}
use Rattle.py_heap.specs.Heaps.{Seen, seen, nothing}
use Rattle.py_builtins.specs.Scalars.{first_from}
use Rattle.py_values.specs.declared.val.Val.{Val}
use Rattle.py_values.specs.declared.val.Val.TheVariants as val
use Rattle.py_frames.specs.declared.request.Answer.TheVariants as answer
use Rattle.py_frames.specs.declared.request.Cause.TheVariants as cause
use Rattle.amh_things.specs.declared.thing.Thing.{Thing}
use Rattle.amh_things.specs.declared.thing.Thing.TheVariants as thing
use Rattle.amh_things.specs.declared.thing.ThingName.TheVariants as name
use Rattle.amh_things.specs.Ends.{Ends}
use Rattle.amh_things.specs.Plans.{value_given}
use Rattle.amh_things.specs.Members.{member_of, plain, compared, enumeration_of}
use Rattle.layout_acts.specs.Enumerations.{numbers_shape, class_made}
use Rattle.amh_values.specs.Attributes.{attributed}
use Rattle.amh_things.specs.Meant.{shape_meant}
use Rattle.value_acts.specs.Names.{number_constant}
use Rattle.value_acts.specs.Operators.{operated}

empty : Seen
empty = seen nothing nothing

hw : ℕ → Val
hw n = val.Hw (record { 0 = n })

numbered : List ℕ → ℤ → NumberedName
numbered n k = record { name = n; number = k }

member : ℕ → Form → Bool → ℤ → Thing
member of f is_integer n = thing.Member (record { of = record { 0 = of }; number = n; shape = f; is_integer = is_integer })

-- ---- classes: the names `Enum` and `IntEnum` are things 0 and 1

bases : List Thing
bases = thing.Name name.Enum ∷ thing.Name name.IntEnum ∷ []

ends : Ends
ends = record { exprs = 1; things = 2 }

class : Val
class = val.Class (record { 0 = 0 })

-- `class Op(Enum, shape=2)` with ADD = 1, SUB = 2 and MINUS = 2
op_enumeration : Thing
op_enumeration = thing.Enumeration (record { shape = unsigned 2; members = numbered (codes "ADD") (pos 1) ∷ numbered (codes "SUB") (pos 2) ∷ numbered (codes "MINUS") (pos 2) ∷ [] })

op_made : class_made empty ends bases (class ∷ hw 0 ∷ val.Int (pos 2) ∷ val.Int (pos 1) ∷ val.Int (pos 2) ∷ val.Int (pos 2) ∷ []) (codes "Op" ∷ codes "=shape" ∷ codes ".ADD" ∷ codes ".SUB" ∷ codes ".MINUS" ∷ [])
    ≡ Ok (record {
      exprs = [];
      things = op_enumeration ∷ member 2 (unsigned 2) false (pos 1) ∷ member 2 (unsigned 2) false (pos 2) ∷ member 2 (unsigned 2) false (pos 2) ∷ [];
      answer = answer.Give (hw 2);
    })
unfolding empty hw numbered member bases ends class op_enumeration is_of
op_made = refl

-- without a shape the numbers -1 and 2 have three bits and a sign, and 0 alone has none
least_shape : numbers_shape empty bases None (negsuc 0 ∷ pos 2 ∷ []) ≡ Ok (signed_form 3)
unfolding empty bases first_from
least_shape = refl

no_bits : numbers_shape empty bases None (pos 0 ∷ []) ≡ Ok (unsigned 0)
unfolding empty bases first_from
no_bits = refl

-- a number outside the shape, a binding that is no integer, and another keyword raise; so does a class over another name
outside : class_made empty ends bases (class ∷ hw 0 ∷ val.Int (pos 1) ∷ val.Int (pos 2) ∷ []) (codes "Op" ∷ codes "=shape" ∷ codes ".A" ∷ []) ≡ Err cause.Raised
unfolding empty hw bases ends class is_of
outside = refl

no_integer : class_made empty ends bases (class ∷ hw 1 ∷ val.Func (record { 0 = 3 }) ∷ []) (codes "Op" ∷ codes ".f" ∷ []) ≡ Err cause.Raised
unfolding empty hw bases ends class
no_integer = refl

other_keyword : class_made empty ends bases (class ∷ hw 1 ∷ val.Int (pos 1) ∷ []) (codes "Op" ∷ codes "=width" ∷ []) ≡ Err cause.Raised
unfolding empty hw bases ends class
other_keyword = refl

other_base : class_made empty ends (thing.Name name.Cat ∷ []) (class ∷ hw 0 ∷ []) (codes "Op" ∷ []) ≡ Err cause.Raised
unfolding empty hw ends class
other_base = refl

-- ---- members: a pool with a signal of 8 bits, and behind `Op` its members, `Level(IntEnum)` with HIGH = 2, and the signal's value

pool : Pooled
pool = record { signals = record { name = codes "a"; shape = unsigned 8; init = pos 0; reset_less = false } ∷ []; exprs = expr.Sig (record { 0 = 0 }) ∷ [] }

things : List Thing
things =
    thing.Name name.Enum ∷ thing.Name name.IntEnum ∷ op_enumeration ∷ member 2 (unsigned 2) false (pos 1) ∷ member 2 (unsigned 2) false (pos 2) ∷ member 2 (unsigned 2) false (pos 2)
    ∷ thing.Enumeration (record { shape = unsigned 2; members = numbered (codes "HIGH") (pos 2) ∷ [] }) ∷ member 6 (unsigned 2) true (pos 2) ∷ thing.Value (record { 0 = 0 }) ∷ thing.Numbered (record { 0 = 2 }) (record { 0 = 0 }) ∷ []

-- `Op.SUB` and `Op.MINUS` are one thing
sub_is : attributed pool things (hw 2 ∷ []) (codes "SUB") ≡ Ok (value_given (hw 4))
unfolding pool things hw op_enumeration numbered member
sub_is = refl

minus_is : attributed pool things (hw 2 ∷ []) (codes "MINUS") ≡ Ok (value_given (hw 4))
unfolding pool things hw op_enumeration numbered member
minus_is = refl

unknown_name : attributed pool things (hw 2 ∷ []) (codes "MUL") ≡ Err cause.Raised
unfolding pool things hw op_enumeration numbered member
unknown_name = refl

no_member : member_of things (record { 0 = 2 }) (pos 3) ≡ None
unfolding things op_enumeration numbered member
no_member = refl

-- ---- comparisons

same_member : compared things (hw 4) (hw 4) (codes "==") ≡ Some true
unfolding things hw op_enumeration numbered member
same_member = refl

-- `Op.SUB` is neither `Level.HIGH` nor 2, and `Level.HIGH` is 2
other_member : compared things (hw 4) (hw 7) (codes "!=") ≡ Some true
unfolding things hw op_enumeration numbered member
other_member = refl

no_number : compared things (hw 4) (val.Int (pos 2)) (codes "==") ≡ Some false
unfolding things hw op_enumeration numbered member
no_number = refl

number_too : compared things (val.Int (pos 2)) (hw 7) (codes "==") ≡ Some true
unfolding things hw op_enumeration numbered member
number_too = refl

-- with a value, and by another sign, a member is a constant
with_hardware : compared things (hw 8) (hw 4) (codes "==") ≡ None
unfolding things hw op_enumeration numbered member
with_hardware = refl

sum_is : operated pool things (hw 8 ∷ hw 4 ∷ []) (codes "+")
    ≡ Ok (record {
      exprs = expr.Const (pos 2) (unsigned 2) ∷ expr.Binary op.Add (record { 0 = 0 }) (record { 0 = 1 }) ∷ [];
      things = thing.Value (record { 0 = 2 }) ∷ [];
      answer = answer.Give (hw 10);
    })
unfolding pool things hw op_enumeration numbered member form
sum_is = refl

-- ---- shapes

op_shape : shape_meant empty things (hw 2) ≡ Ok (unsigned 2)
unfolding empty things hw op_enumeration numbered member
op_shape = refl

-- `Const(5, Op)` is 1, and a value of the enumeration
op_constant : number_constant empty ends things (Some (pos 5)) (Some (hw 2))
    ≡ Ok (record { exprs = expr.Const (pos 1) (unsigned 2) ∷ []; things = thing.Numbered (record { 0 = 2 }) (record { 0 = 1 }) ∷ []; answer = answer.Give (hw 2) })
unfolding empty ends things hw op_enumeration numbered member
op_constant = refl

held_as_op : enumeration_of (record { 0 = 0 }) things ≡ Some (record { 0 = 2 })
unfolding things op_enumeration numbered member
held_as_op = refl

pattern_is : plain things (hw 4) ≡ val.Int (pos 2)
unfolding things hw op_enumeration numbered member
pattern_is = refl
