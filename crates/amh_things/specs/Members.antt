-- Members of enumerations, and values of an enumeration's shape. Python library reference, "enum": a name with a number that stands already is
-- another name of the first member, members of `Enum` are equal where they are the same, and those of `IntEnum` as integers are. That a member
-- counts as a constant of its enumeration's shape where a value is wanted is Amaranth's (standard library reference 0.5, "Enumerations").
use Rattle.std.specs.Prelude.{ℕ, ◌+◌, ◌==◌, ◌&&◌, ◌||◌, not, Bool, false, if◌then◌else◌, ℤ, List, [], ◌∷◌, drop, slice_get, Option, Some, None, option_map, Result, Ok, Err, codes}
use Rattle.std.specs.Option.{option_and_then}
use Rattle.std.specs.List.{position}
use Rattle.std.specs.Ordering.{int_eq}
use Rattle.lists.specs.Texts.{text_eq}
use Rattle.data_layouts.specs.Enumerations.{Enumerated, number_named}
use Rattle.design_ir.specs.declared.ids.ExprId.{ExprId}
use Rattle.py_values.specs.declared.val.Hw.{Hw}
use Rattle.py_values.specs.declared.val.Val.{Val}
use Rattle.py_values.specs.declared.val.Val.TheVariants as val
use Rattle.py_values.specs.Numbers.{number_of}
use Rattle.py_frames.specs.declared.request.Cause.{Cause}
use Rattle.py_frames.specs.declared.request.Cause.TheVariants.{Raised}
use Rattle.amh_things.specs.declared.thing.Member.{Member}
use Rattle.amh_things.specs.declared.thing.Thing.{Thing}
use Rattle.amh_things.specs.declared.thing.Thing.TheVariants as thing
use Rattle.amh_things.specs.declared.plan.Plan.{Plan}
use Rattle.amh_things.specs.Things.{thing_of, shown_enumeration, shown_member}
use Rattle.amh_things.specs.Plans.{value_given}

-- ---- the members of an enumeration

abbrev pub is_member : Hw → ℤ → Thing → Bool
is_member h n (thing.Member m) = m.of.0 == h.0 && int_eq m.number n
is_member h n t = false

-- the member that has a number: the first such thing behind the enumeration, so that one member is one thing whatever it is called
abbrev pub member_of : List Thing → Hw → ℤ → Option Hw
member_of things h n = option_map (λ i. record { 0 = h.0 + i }) (position (is_member h n) (drop h.0 things))

abbrev pub member_given : Option Hw → Result Plan Cause
member_given (Some h) = Ok (value_given (val.Hw h))
member_given None = Err Raised

-- `X.NAME`
abbrev pub member_named : List Thing → Hw → Enumerated → List ℕ → Result Plan Cause
member_named things h e name = member_given (option_and_then (member_of things h) (number_named name e.members))

-- ---- members as numbers

abbrev pub as_number : Option Member → Val → Val
as_number (Some m) v = val.Int m.number
as_number None v = v

-- the number of a member, and any other value as it is
abbrev pub plain : List Thing → Val → Val
plain things v = as_number (shown_member (thing_of things v)) v

-- the number that an integer, a boolean or a member is
abbrev pub counted : List Thing → Val → Option ℤ
counted things v = number_of (plain things v)

-- ---- `==` and `!=` without hardware: of members, and of a member and a value of Python

abbrev pub equal_members : Member → Member → Bool
equal_members x y = int_eq x.number y.number && (x.of.0 == y.of.0 || (x.is_integer && y.is_integer))

-- a member of `Enum` is no integer
abbrev pub equal_number : Member → Option ℤ → Bool
equal_number x (Some n) = x.is_integer && int_eq x.number n
equal_number x None = false

-- a thing that is no member is not compared so
abbrev pub equal_value : Member → Val → Option Bool
equal_value x (val.Hw h) = None
equal_value x v = Some (equal_number x (number_of v))

abbrev pub equal_where : Option Member → Option Member → Val → Val → Option Bool
equal_where (Some x) (Some y) a b = Some (equal_members x y)
equal_where (Some x) None a b = equal_value x b
equal_where None (Some y) a b = equal_value y a
equal_where None None a b = None

abbrev pub equal_as_python : List Thing → Val → Val → Option Bool
equal_as_python things a b = equal_where (shown_member (thing_of things a)) (shown_member (thing_of things b)) a b

abbrev pub by_sign : List ℕ → Bool → Option Bool
by_sign sign equal =
    if text_eq sign (codes "==") then Some equal else (if text_eq sign (codes "!=") then Some (not equal) else None)

-- what Python answers to a comparison, where it is one of these
abbrev pub compared : List Thing → Val → Val → List ℕ → Option Bool
compared things a b sign = option_and_then (by_sign sign) (equal_as_python things a b)

abbrev pub unless_compared : Option Bool → Result Plan Cause → Result Plan Cause
unless_compared (Some b) made = Ok (value_given (val.Bool b))
unless_compared None made = made

-- ---- values of an enumeration's shape

-- the enumeration that a shape is given by, where it is one
abbrev pub numbering_at : List Thing → Hw → Option Hw
numbering_at things h = option_map (λ e. h) (shown_enumeration (slice_get things h.0))

abbrev pub numbering : List Thing → Option Val → Option Hw
numbering things (Some (val.Hw h)) = numbering_at things h
numbering things v = None

-- the enumeration whose shape an expression has as this thing
abbrev pub numbered_by : ExprId → Thing → Option Hw
numbered_by e (thing.Numbered h x) = if x.0 == e.0 then Some h else None
numbered_by e t = None

abbrev pub first_hw : Option Hw → Option Hw → Option Hw
first_hw (Some h) g = Some h
first_hw None g = g

abbrev pub enumeration_of : ExprId → List Thing → Option Hw
enumeration_of e [] = None
enumeration_of e (t ∷ ts) = first_hw (numbered_by e t) (enumeration_of e ts)
