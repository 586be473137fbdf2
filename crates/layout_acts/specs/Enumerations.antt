-- Classes over `Enum` and `IntEnum`. Amaranth standard library reference 0.5, "Enumerations": the numbers have the shape that the keyword `shape`
-- gives, and else the least one. That such a class binds integers alone, and that a number outside the shape raises, are own rules.
use Rattle.std.specs.Prelude.{ℕ, ◌==◌, ◌&&◌, not, Bool, true, false, if◌then◌else◌, ℤ, List, [], ◌∷◌, ◌++◌, map, option_map, Option, Some, None, Result, Ok, Err, codes}
use Rattle.std.specs.List.{list_any}
use Rattle.lists.specs.Texts.{text_eq}
use Rattle.shape_rules.specs.Forms.{Form}
use Rattle.data_layouts.specs.declared.enumeration.NumberedName.{NumberedName}
use Rattle.data_layouts.specs.declared.refusal.LayoutStop.{LayoutStop}
use Rattle.data_layouts.specs.Enumerations.{enum_refusal}
use Rattle.py_heap.specs.Heaps.{Seen}
use Rattle.py_values.specs.declared.val.Val.{Val}
use Rattle.py_values.specs.declared.val.Val.TheVariants as val
use Rattle.py_values.specs.Numbers.{number_of}
use Rattle.py_frames.specs.declared.request.Answer.TheVariants as answer
use Rattle.py_frames.specs.declared.request.Cause.{Cause}
use Rattle.py_frames.specs.declared.request.Cause.TheVariants.{Raised}
use Rattle.amh_things.specs.declared.thing.Thing.{Thing}
use Rattle.amh_things.specs.declared.thing.Thing.TheVariants as thing
use Rattle.amh_things.specs.declared.thing.ThingName.{ThingName}
use Rattle.amh_things.specs.declared.thing.ThingName.TheVariants as name
use Rattle.amh_things.specs.Ends.{Ends}
use Rattle.amh_things.specs.declared.plan.Plan.{Plan}
use Rattle.amh_things.specs.Things.{thing_of, shown_name}
use Rattle.amh_things.specs.Arguments.{keyword}
use Rattle.amh_things.specs.Ranges.{form_for_all, form_within}
use Rattle.amh_things.specs.Meant.{shape_meant}

-- ---- what the class has: its values are those of its keywords, annotations and bindings, whose names have `=`, `:` and `.` before them

abbrev pub named_before : List ℕ → Option ℤ → Option (List NumberedName) → Option (List NumberedName)
named_before name (Some n) (Some ms) = Some (record { name = name; number = n } ∷ ms)
named_before name n ms = None

-- a binding is a member; annotations and keywords are none
abbrev pub value_before : List ℕ → Option ℤ → Option (List NumberedName) → Option (List NumberedName)
value_before [] n ms = ms
value_before (sign ∷ name) n ms = if sign == 46 then named_before name n ms else ms

-- the members in order; none where a binding is no integer
abbrev pub numbered_names : List Val → List (List ℕ) → Option (List NumberedName)
numbered_names vs [] = Some []
numbered_names [] (n ∷ ns) = None
numbered_names (v ∷ vs) (n ∷ ns) = value_before n (number_of v) (numbered_names vs ns)

-- names before others, and none where they are not some
abbrev pub behind_names : Bool → List NumberedName → Option (List NumberedName) → Option (List NumberedName)
behind_names true before ms = option_map (λ rest. before ++ rest) ms
behind_names false before ms = None

abbrev pub is_keyword : List ℕ → Bool
is_keyword [] = false
is_keyword (sign ∷ name) = sign == 61

-- `shape` is the only one
abbrev pub is_other_keyword : List ℕ → Bool
is_other_keyword name = is_keyword name && not (text_eq name (codes "=shape"))

-- ---- the enumeration

abbrev pub numbers_of : List NumberedName → List ℤ
numbers_of ms = map (λ (m : NumberedName). m.number) ms

-- without a shape it is the least that has all numbers
abbrev pub numbers_shape : Seen → List Thing → Option Val → List ℤ → Result Form Cause
numbers_shape s things None ns = form_within (form_for_all ns)
numbers_shape s things (Some val.None) ns = form_within (form_for_all ns)
numbers_shape s things (Some v) ns = shape_meant s things v

abbrev pub member_thing : Ends → Bool → Form → NumberedName → Thing
member_thing ends is_integer f m =
    thing.Member (record { of = record { 0 = ends.things }; number = m.number; shape = f; is_integer = is_integer })

-- the enumeration, and a thing for each of its members behind it
abbrev pub enumeration_plan : Ends → Bool → Form → List NumberedName → Plan
enumeration_plan ends is_integer f ms = record {
  exprs = [];
  things = thing.Enumeration (record { shape = f; members = ms }) ∷ map (member_thing ends is_integer f) ms;
  answer = answer.Give (val.Hw (record { 0 = ends.things }));
}

-- a name that stands twice and a number outside the shape raise
abbrev pub unless_stopped : Option LayoutStop → Plan → Result Plan Cause
unless_stopped None plan = Ok plan
unless_stopped (Some stop) plan = Err Raised

abbrev pub shaped : Ends → Bool → List NumberedName → Result Form Cause → Result Plan Cause
shaped ends is_integer ms (Ok f) = unless_stopped (enum_refusal f ms) (enumeration_plan ends is_integer f ms)
shaped ends is_integer ms (Err why) = Err why

abbrev pub enumeration_made : Seen → Ends → List Thing → Bool → Option Val → Option (List NumberedName) → Result Plan Cause
enumeration_made s ends things is_integer shape None = Err Raised
enumeration_made s ends things is_integer shape (Some ms) = shaped ends is_integer ms (numbers_shape s things shape (numbers_of ms))

-- ---- classes

-- whether a class over a name makes an enumeration, and whether its members are integers
abbrev pub integer_base : Option ThingName → Option Bool
integer_base (Some name.Enum) = Some false
integer_base (Some name.IntEnum) = Some true
integer_base n = None

abbrev pub class_over : Seen → Ends → List Thing → Option Bool → List Val → List (List ℕ) → Result Plan Cause
class_over s ends things None vals names = Err Raised
class_over s ends things (Some is_integer) vals names =
    if list_any is_other_keyword names then Err Raised
    else enumeration_made s ends things is_integer (keyword (codes "=shape") names vals) (numbered_names vals names)

-- the end of a class: the class, its base and its values; its name and the names of the values
abbrev pub class_made : Seen → Ends → List Thing → List Val → List (List ℕ) → Result Plan Cause
class_made s ends things (c ∷ base ∷ vals) (name ∷ names) = class_over s ends things (integer_base (shown_name (thing_of things base))) vals names
class_made s ends things vals names = Err Raised
