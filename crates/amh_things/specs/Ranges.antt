-- Ranges as shapes. Amaranth language guide 0.5, "Shapes", shapes from ranges: the least shape that has every element, with a sign where one
-- of them is negative; that of no elements has no bits, as that of 0 alone.
use Rattle.std.specs.Prelude.{ℕ, ◌+◌, nat_lt, max, Bool, true, false, if◌then◌else◌, ℤ, pos, negsuc, List, [], ◌∷◌, Result, Ok, Err}
use Rattle.std.specs.List.{list_any}
use Rattle.amh_bits.specs.Integers.{sign_of}
use Rattle.shape_rules.specs.Forms.{Form}
use Rattle.py_values.specs.declared.val.ObjId.{ObjId}
use Rattle.py_heap.specs.Heaps.{Seen, row_at}
use Rattle.py_values.specs.Ranges.{span_of}
use Rattle.py_builtins.specs.Scalars.{bit_length}
use Rattle.py_operators.specs.Spans.{span_numbers}
use Rattle.py_frames.specs.declared.request.Cause.{Cause}
use Rattle.py_frames.specs.declared.request.Cause.TheVariants.{Width}

-- what the bits of a number below its sign are, those of a negative one turned
abbrev pub magnitude : ℤ → ℕ
magnitude (pos n) = n
magnitude (negsuc n) = n

-- the least width that has a number, one more where it is that of a signed shape
abbrev pub width_for : Bool → ℤ → ℕ
width_for false n = bit_length (magnitude n)
width_for true n = bit_length (magnitude n) + 1

abbrev pub width_for_all : Bool → List ℤ → ℕ
width_for_all signed [] = 0
width_for_all signed (n ∷ ns) = max (width_for signed n) (width_for_all signed ns)

-- the least shape that has all of these numbers
abbrev pub form_for_all : List ℤ → Form
form_for_all ns = record { width = width_for_all (list_any sign_of ns) ns; signed = list_any sign_of ns }

abbrev pub form_within : Form → Result Form Cause
form_within f = if nat_lt 128 f.width then Err Width else Ok f

-- the shape that a range of the heap is
abbrev pub range_shape : Seen → ObjId → Result Form Cause
range_shape s o = form_within (form_for_all (span_numbers (span_of (row_at s o.0))))
