-- Classes over `Struct`. Amaranth standard library reference 0.5, "Data structures", data classes: the annotations are the members of a structure,
-- the first least significant. That such a class has no keyword and binds nothing, so that it has no functions and no default values, is an own rule.
use Rattle.std.specs.Prelude.{ℕ, ◌==◌, Bool, true, false, if◌then◌else◌, List, [], ◌∷◌, ◌++◌, option_map, Option, Some, None, Result, Err}
use Rattle.py_heap.specs.Heaps.{Seen}
use Rattle.py_values.specs.declared.val.Val.{Val}
use Rattle.py_frames.specs.declared.request.NamedVal.{NamedVal}
use Rattle.py_frames.specs.declared.request.Cause.{Cause}
use Rattle.py_frames.specs.declared.request.Cause.TheVariants.{Raised}
use Rattle.amh_things.specs.declared.thing.Thing.{Thing}
use Rattle.amh_things.specs.declared.thing.ThingName.{ThingName}
use Rattle.amh_things.specs.declared.thing.ThingName.TheVariants as name
use Rattle.amh_things.specs.Ends.{Ends}
use Rattle.amh_things.specs.declared.plan.Plan.{Plan}
use Rattle.amh_things.specs.Things.{thing_of, shown_name}
use Rattle.layout_acts.specs.declared.layouts.LayoutKind.TheVariants as kind
use Rattle.layout_acts.specs.Layouts.{members_laid}
use Rattle.layout_acts.specs.Enumerations as enumerations

-- ---- what the class has: its values are those of its keywords, annotations and bindings, whose names have `=`, `:` and `.` before them

abbrev pub annotation_before : List ℕ → Val → Option (List NamedVal) → Option (List NamedVal)
annotation_before [] v ms = None
annotation_before (sign ∷ name) v ms = if sign == 58 then option_map (λ rest. record { name = name; val = v } ∷ rest) ms else None

-- the annotations in order; none where there is a keyword or a binding
abbrev pub annotations : List Val → List (List ℕ) → Option (List NamedVal)
annotations vs [] = Some []
annotations [] (n ∷ ns) = None
annotations (v ∷ vs) (n ∷ ns) = annotation_before n v (annotations vs ns)

-- members before others, and none where they are not some
abbrev pub behind_members : Bool → List NamedVal → Option (List NamedVal) → Option (List NamedVal)
behind_members true before ms = option_map (λ rest. before ++ rest) ms
behind_members false before ms = None

-- ---- classes

abbrev pub structure_made : Seen → Ends → List Thing → Option (List NamedVal) → Result Plan Cause
structure_made s ends things (Some ms) = members_laid s ends things kind.Structure ms
structure_made s ends things None = Err Raised

abbrev pub is_struct : Option ThingName → Bool
is_struct (Some name.Struct) = true
is_struct n = false

-- the end of a class: the class, its base and its values; its name and the names of the values
abbrev pub class_made : Seen → Ends → List Thing → List Val → List (List ℕ) → Result Plan Cause
class_made s ends things (c ∷ base ∷ vals) (name ∷ names) =
    if is_struct (shown_name (thing_of things base)) then structure_made s ends things (annotations vals names)
    else enumerations.class_made s ends things (c ∷ base ∷ vals) (name ∷ names)
class_made s ends things vals names = Err Raised
