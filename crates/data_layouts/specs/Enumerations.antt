-- Names of numbers of a shape.
-- Source: Amaranth standard library reference, Enumerations; Python library reference, enum: Enum (aliases); that a number of
-- another shape is refused: own rule (docs/RULES.md).
use Rattle.std.specs.Prelude.{ℕ, ◌+◌, ◌*◌, ◌^◌, Bool, true, false, not, nat_lt, if◌then◌else◌, ℤ, pos, negsuc, List, map, find, Option, Some, None, option_map}
use Rattle.std.specs.List.{list_any, AllByRecursion}
use Rattle.std.specs.Ordering.{int_eq}
use Rattle.lists.specs.Texts.{text_eq}
use Rattle.amh_bits.specs.Patterns.{IsOf}
use Rattle.shape_rules.specs.Forms.{Form}
use Rattle.data_layouts.specs.declared.enumeration.NumberedName.{NumberedName}
use Rattle.data_layouts.specs.declared.refusal.LayoutStop.{LayoutStop}
use Rattle.data_layouts.specs.declared.refusal.LayoutStop.TheVariants.{Repeated, NotFitting}
use Rattle.data_layouts.specs.Names.{has_twins}

-- a shape, and names with numbers of it
pub record Enumerated : Type 0 where
  pub shape : Form
  pub members : List NumberedName

-- whether a number is of a shape
unfoldable pub is_of : Bool → ℕ → ℤ → Bool
is_of false width (pos n) = nat_lt n (2 ^ width)
is_of false width (negsuc n) = false
is_of true width (pos n) = nat_lt (2 * n) (2 ^ width)
is_of true width (negsuc n) = nat_lt (2 * n + 1) (2 ^ width)

abbrev pub fits : Form → NumberedName → Bool
fits f m = is_of f.signed f.width m.number

-- every number is one of the shape
abbrev pub IsEnumerated : Enumerated → Type 0
IsEnumerated e = AllByRecursion (λ (m : NumberedName). IsOf e.shape.signed e.shape.width m.number) e.members

abbrev pub names_of : List NumberedName → List (List ℕ)
names_of ms = map (λ (m : NumberedName). m.name) ms

-- a name that stands twice is told before a number of another shape
abbrev pub enum_refusal : Form → List NumberedName → Option LayoutStop
enum_refusal f ms =
    if has_twins (names_of ms) then Some Repeated else (if list_any (λ m. not (fits f m)) ms then Some NotFitting else None)

-- the number of a name
abbrev pub number_named : List ℕ → List NumberedName → Option ℤ
number_named name ms = option_map (λ (m : NumberedName). m.number) (find (λ (m : NumberedName). text_eq m.name name) ms)

-- the first member with a number: a later one is another name of it
abbrev pub first_named : ℤ → List NumberedName → Option NumberedName
first_named number ms = find (λ (m : NumberedName). int_eq m.number number) ms
