-- Where fields stand.
-- Source: Amaranth standard library reference, Data structures: StructLayout, UnionLayout, ArrayLayout; that a name may not stand
-- twice and that a layout has at most 128 bits: own rule (docs/RULES.md).
use Rattle.std.specs.Prelude.{◌≡◌, ℕ, ◌+◌, ◌*◌, ◌≤◌, max, nat_lt, if◌then◌else◌, List, [], ◌∷◌, map, fold, Option, Some, None, ⊤}
use Rattle.std.specs.List.{range_with_len, sum_by, AllByRecursion}
use Rattle.std.specs.Fmt.{decimal}
use Rattle.shape_rules.specs.Forms.{Form}
use Rattle.data_layouts.specs.declared.field.Field.{Field}
use Rattle.data_layouts.specs.declared.field.Member.{Member}
use Rattle.data_layouts.specs.declared.refusal.LayoutStop.{LayoutStop}
use Rattle.data_layouts.specs.declared.refusal.LayoutStop.TheVariants.{Width, Repeated, NotFitting, NoMemory}
use Rattle.data_layouts.specs.Names.{has_twins}

-- fields, and how many bits they lie in
pub record Laid : Type 0 where
  pub fields : List Field
  pub width : ℕ

-- a field lies within so many bits
abbrev pub IsWithin : ℕ → Field → Type 0
IsWithin width f = f.low + f.shape.width ≤ width

-- what every layout keeps to
pub record IsLaid (l : Laid) : Type 0 where
  pub most : l.width ≤ 128
  pub within : AllByRecursion (IsWithin l.width) l.fields

-- ---- structures: each field begins where the one before it ends, the first at bit 0

abbrev pub one_above : ℕ → List Member → List Field
one_above low [] = []
one_above low (m ∷ ms) = record { name = m.name; low = low; shape = m.shape } ∷ one_above (low + m.shape.width) ms

abbrev pub width_of : Member → ℕ
width_of m = m.shape.width

-- the bits of all of them
abbrev pub total : List Member → ℕ
total ms = sum_by width_of ms

abbrev pub structure_of : List Member → Laid
structure_of ms = record { fields = one_above 0 ms; width = total ms }

-- ---- unions: all fields at bit 0

abbrev pub at_zero : Member → Field
at_zero m = record { name = m.name; low = 0; shape = m.shape }

-- the bits of the widest
abbrev pub widest : List Member → ℕ
widest ms = fold (λ bits m. max bits (width_of m)) 0 ms

abbrev pub union_of : List Member → Laid
union_of ms = record { fields = map at_zero ms; width = widest ms }

-- ---- arrays: item i at i times the width of an item, with the numeral of i as its name

abbrev pub item_at : Form → ℕ → Field
item_at item i = record { name = decimal i; low = i * item.width; shape = item }

abbrev pub array_of : Form → ℕ → Laid
array_of item count = record { fields = map (item_at item) (range_with_len 0 count); width = count * item.width }

-- ---- refusals

abbrev pub names_of : List Member → List (List ℕ)
names_of ms = map (λ (m : Member). m.name) ms

abbrev pub width_refusal : ℕ → Option LayoutStop
width_refusal width = if nat_lt 128 width then Some Width else None

-- a name that stands twice is told before the width
abbrev pub named_refusal : List Member → ℕ → Option LayoutStop
named_refusal ms width = if has_twins (names_of ms) then Some Repeated else width_refusal width

abbrev pub structure_refusal : List Member → Option LayoutStop
structure_refusal ms = named_refusal ms (total ms)

abbrev pub union_refusal : List Member → Option LayoutStop
union_refusal ms = named_refusal ms (widest ms)

abbrev pub array_refusal : Form → ℕ → Option LayoutStop
array_refusal item count = width_refusal (count * item.width)

-- a refusal is the one that is owed; want of memory may come at any time
abbrev pub IsOwed : Option LayoutStop → LayoutStop → Type 0
IsOwed owed Width = owed ≡ Some Width
IsOwed owed Repeated = owed ≡ Some Repeated
IsOwed owed NotFitting = owed ≡ Some NotFitting
IsOwed owed NoMemory = ⊤
