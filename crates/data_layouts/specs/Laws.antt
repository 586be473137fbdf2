-- What holds of all layouts and enumerations.
use Rattle.std.specs.Prelude.{◌≡◌, ℕ, ◌+◌, ◌<◌, ◌↔◌, Bool, true, false, List, [], ◌∷◌, map, find, slice_get, ℤ, Some}
use Rattle.std.specs.List.{AllByRecursion, IsDistinct}
use Rattle.lists.specs.Texts.{text_eq}
use Rattle.amh_bits.specs.Patterns.{IsOf}
use Rattle.shape_rules.specs.Forms.{Form}
use Rattle.data_layouts.specs.declared.field.Field.{Field}
use Rattle.data_layouts.specs.declared.field.Member.{Member}
use Rattle.data_layouts.specs.declared.enumeration.NumberedName.{NumberedName}
use Rattle.data_layouts.specs.Names.{has_twins}
use Rattle.data_layouts.specs.Layouts.{Laid, IsWithin, structure_of, union_of, array_of, item_at}
use Rattle.data_layouts.specs.Enumerations.{names_of, is_of, number_named}

-- ---- where fields lie

-- the fields fill the bits from one bit up to another: each begins where the one before it ends
abbrev pub Fills : ℕ → List Field → ℕ → Type 0
Fills low [] high = low ≡ high
Fills low (f ∷ fs) high = (f.low ≡ low) × Fills (low + f.shape.width) fs high

-- the fields of a structure fill its bits, and so do the items of an array
abbrev pub StructuresAreFilled : Type 0
StructuresAreFilled = (ms : List Member) → Fills 0 (structure_of ms).fields (structure_of ms).width

abbrev pub ArraysAreFilled : Type 0
ArraysAreFilled = (item : Form) (count : ℕ) → Fills 0 (array_of item count).fields (array_of item count).width

-- item i stands at place i
abbrev pub ItemsAreInOrder : Type 0
ItemsAreInOrder = (item : Form) (count i : ℕ) → i < count → slice_get (array_of item count).fields i ≡ Some (item_at item i)

-- every field lies within the width
abbrev pub AllWithin : Laid → Type 0
AllWithin l = AllByRecursion (IsWithin l.width) l.fields

pub record FieldsAreWithin : Type 0 where
  pub structures : (ms : List Member) → AllWithin (structure_of ms)
  pub unions : (ms : List Member) → AllWithin (union_of ms)
  pub arrays : (item : Form) (count : ℕ) → AllWithin (array_of item count)

-- ---- what the fields of members are

-- the members that fields were made of
abbrev pub members_of : List Field → List Member
members_of fs = map (λ (f : Field). record { name = f.name; shape = f.shape }) fs

pub record MembersAreKept : Type 0 where
  pub structures : (ms : List Member) → members_of (structure_of ms).fields ≡ ms
  pub unions : (ms : List Member) → members_of (union_of ms).fields ≡ ms

-- ---- names

-- a name stands twice exactly where the names are not distinct
abbrev pub TwinsAreRepeated : Type 0
TwinsAreRepeated = (ns : List (List ℕ)) → (has_twins ns ≡ false) ↔ IsDistinct text_eq ns

abbrev pub field_names : List Field → List (List ℕ)
field_names fs = map (λ (f : Field). f.name) fs

-- where no name stands twice, each field and each member is found by its name
pub record NamesAreFound : Type 0 where
  pub fields : (fs : List Field) → has_twins (field_names fs) ≡ false → AllByRecursion (λ (f : Field). find (λ (g : Field). text_eq g.name f.name) fs ≡ Some f) fs
  pub numbers : (ms : List NumberedName) → has_twins (names_of ms) ≡ false → AllByRecursion (λ (m : NumberedName). number_named m.name ms ≡ Some m.number) ms

-- ---- numbers

-- the test of a number is true exactly at the numbers of the shape
abbrev pub TestsAreExact : Type 0
TestsAreExact = (signed : Bool) (width : ℕ) (n : ℤ) → (is_of signed width n ≡ true) ↔ IsOf signed width n
