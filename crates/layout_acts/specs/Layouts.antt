-- `StructLayout(members)`, `UnionLayout(members)` and `ArrayLayout(elem_shape, length)`. Amaranth standard library reference 0.5, "Data structures":
-- members are a dict from names to shapes. That a name is an identifier, and that an array of more than 255 items without bits
-- raises, are own rules.
use Rattle.std.specs.Prelude.{ℕ, ◌*◌, ◌||◌, not, nat_lt, Bool, true, false, if◌then◌else◌, ℤ, pos, negsuc, List, [], ◌∷◌, map, replicate, is_some, Option, Some, None, Result, Ok, Err, codes}
use Rattle.std.specs.List.{list_any}
use Rattle.shape_rules.specs.Forms.{Form, unsigned}
use Rattle.identifiers.specs.Identifiers.{is_identifier}
use Rattle.data_layouts.specs.declared.field.Member.{Member}
use Rattle.data_layouts.specs.declared.refusal.LayoutStop.{LayoutStop}
use Rattle.data_layouts.specs.declared.refusal.LayoutStop.TheVariants.{Repeated}
use Rattle.data_layouts.specs.Layouts.{Laid, structure_of, union_of, array_of, structure_refusal, union_refusal}
use Rattle.py_values.specs.declared.val.Val.{Val}
use Rattle.py_values.specs.declared.val.Val.TheVariants as val
use Rattle.py_heap.specs.Heaps.{Seen, text_at, row_at}
use Rattle.py_values.specs.Numbers.{number_of}
use Rattle.py_frames.specs.declared.request.NamedVal.{NamedVal}
use Rattle.py_frames.specs.declared.request.Cause.{Cause}
use Rattle.py_frames.specs.declared.request.Cause.TheVariants.{Raised, Width}
use Rattle.amh_things.specs.declared.thing.LayoutThing.{LayoutThing}
use Rattle.amh_things.specs.declared.thing.Reading.{Reading}
use Rattle.amh_things.specs.declared.thing.Thing.{Thing}
use Rattle.amh_things.specs.declared.thing.Thing.TheVariants as thing
use Rattle.amh_things.specs.Ends.{Ends}
use Rattle.amh_things.specs.declared.plan.Plan.{Plan}
use Rattle.amh_things.specs.Things.{reading_given}
use Rattle.amh_things.specs.Plans.{thing_made}
use Rattle.amh_things.specs.Meant.{shape_meant}
use Rattle.amh_things.specs.Arguments.{Arguments, argument, fits}
use Rattle.layout_acts.specs.declared.layouts.LayoutKind.{LayoutKind}
use Rattle.layout_acts.specs.declared.layouts.LayoutKind.TheVariants as kind

-- ---- members: names, each with what is to be a shape

-- the text of a string; what is no string has none, which is no name
abbrev pub text_in : Seen → Val → List ℕ
text_in s (val.Str x) = text_at s x.0
text_in s v = []

-- those of a dict: its keys and their values
abbrev pub members_of_row : Seen → List Val → List NamedVal
members_of_row s [] = []
members_of_row s (k ∷ []) = []
members_of_row s (k ∷ v ∷ row) = record { name = text_in s k; val = v } ∷ members_of_row s row

-- ---- their shapes

abbrev pub is_wide : Result Form Cause → Bool
is_wide (Err Width) = true
is_wide r = false

abbrev pub is_no_shape : Result Form Cause → Bool
is_no_shape (Ok f) = false
is_no_shape (Err Width) = false
is_no_shape (Err why) = true

-- of what is refused no bits
abbrev pub form_or_none : Result Form Cause → Form
form_or_none (Ok f) = f
form_or_none (Err why) = unsigned 0

abbrev pub is_no_member : Seen → List Thing → NamedVal → Bool
is_no_member s things m = not (is_identifier m.name) || is_no_shape (shape_meant s things m.val)

abbrev pub has_wide_shape : Seen → List Thing → NamedVal → Bool
has_wide_shape s things m = is_wide (shape_meant s things m.val)

abbrev pub member_of : Seen → List Thing → NamedVal → Member
member_of s things m = record { name = m.name; shape = form_or_none (shape_meant s things m.val) }

abbrev pub reading_of : List Thing → NamedVal → Reading
reading_of things m = reading_given things m.val

-- ---- layouts of members

abbrev pub laid : LayoutKind → List Member → Laid
laid kind.Structure ms = structure_of ms
laid kind.Union ms = union_of ms

abbrev pub laid_refusal : LayoutKind → List Member → Option LayoutStop
laid_refusal kind.Structure ms = structure_refusal ms
laid_refusal kind.Union ms = union_refusal ms

abbrev pub is_repeated : Option LayoutStop → Bool
is_repeated (Some Repeated) = true
is_repeated stop = false

-- what raises is told first: what is no member, and a name that stands twice; then the width of a shape, or of all together
abbrev pub layout_where : Ends → Bool → Bool → Option LayoutStop → LayoutThing → Result Plan Cause
layout_where ends raises wide stop l =
    if raises || is_repeated stop then Err Raised
    else (if wide || is_some stop then Err Width else Ok (thing_made ends (thing.Layout l)))

abbrev pub layout_of : Ends → LayoutKind → Bool → Bool → List Member → List Reading → Result Plan Cause
layout_of ends k raises wide ms readings =
    layout_where ends raises wide (laid_refusal k ms) (record { layout = laid k ms; readings = readings; is_array = false })

-- the layout of these members, in their order
abbrev pub members_laid : Seen → Ends → List Thing → LayoutKind → List NamedVal → Result Plan Cause
members_laid s ends things k ms =
    layout_of ends k (list_any (is_no_member s things) ms) (list_any (has_wide_shape s things) ms) (map (member_of s things) ms) (map (reading_of things) ms)

abbrev pub members_given : Seen → Ends → List Thing → LayoutKind → Option Val → Result Plan Cause
members_given s ends things k (Some (val.Dict o)) = members_laid s ends things k (members_of_row s (row_at s o.0))
members_given s ends things k v = Err Raised

abbrev pub members_parameters : List (List ℕ)
members_parameters = codes "members" ∷ []

abbrev pub members_called : Seen → Ends → List Thing → LayoutKind → Arguments → Result Plan Cause
members_called s ends things k a = if fits members_parameters a then members_given s ends things k (argument a 0 (codes "members")) else Err Raised

-- ---- arrays

abbrev pub array_thing : Form → ℕ → Reading → LayoutThing
array_thing item n r = record { layout = array_of item n; readings = replicate n r; is_array = true }

-- more than 255 items have no place where they have no bits; with bits they are too wide
abbrev pub items_laid : Ends → Form → ℕ → Reading → Result Plan Cause
items_laid ends item n r =
    if nat_lt 128 (n * item.width) then Err Width else (if nat_lt 255 n then Err Raised else Ok (thing_made ends (thing.Layout (array_thing item n r))))

-- a length is an integer from 0; what raises is told before a shape that is too wide
abbrev pub array_laid : Ends → Option ℤ → Reading → Result Form Cause → Result Plan Cause
array_laid ends None r shape = Err Raised
array_laid ends (Some (negsuc n)) r shape = Err Raised
array_laid ends (Some (pos n)) r (Ok item) = items_laid ends item n r
array_laid ends (Some (pos n)) r (Err why) = Err why

abbrev pub array_given : Seen → Ends → List Thing → Option Val → Option Val → Result Plan Cause
array_given s ends things (Some item) (Some n) = array_laid ends (number_of n) (reading_given things item) (shape_meant s things item)
array_given s ends things None n = Err Raised
array_given s ends things (Some item) None = Err Raised

abbrev pub array_parameters : List (List ℕ)
array_parameters = codes "elem_shape" ∷ codes "length" ∷ []

abbrev pub array_called : Seen → Ends → List Thing → Arguments → Result Plan Cause
array_called s ends things a =
    if fits array_parameters a then array_given s ends things (argument a 0 (codes "elem_shape")) (argument a 1 (codes "length")) else Err Raised
