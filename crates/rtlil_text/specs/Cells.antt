-- The value of each bit of a cell's output, from the values of the bits at its ends.
-- Source: Yosys manual, Cell library: unary operators, binary operators, multiplexers.
use Rattle.std.specs.Prelude.{ℕ, zero, suc, ◌+◌, ◌*◌, ◌/◌, ◌%◌, ◌^◌, ◌==◌, ◌&&◌, ◌||◌, Bool, true, false, not, cond, List, [], ◌∷◌, map, length, slice_get, ℤ, pos, ◌+ℤ◌, ◌-ℤ◌, ◌*ℤ◌, int_lt, int_le, unsigned_abs, Option, Some, None, option_map, option_and_then, codes}
use Rattle.std.specs.List.{list_any, list_all}
use Rattle.amh_bits.specs.Integers.{floor_div, floor_rem, floor_quotient}
use Rattle.amh_bits.specs.Patterns.{pattern, number}
use Rattle.shape_rules.specs.declared.cell.CellKind.{CellKind}
use Rattle.shape_rules.specs.declared.cell.CellKind.TheVariants.{Not, And, Or, Xor, ReduceOr, ReduceAnd, ReduceXor, Add, Sub, Mul, Eq, Lt, Le, Shl, Shr, Sshr, DivFloor, ModFloor, Mux, Dff, Adff, MemoryRead, MemoryWrite, MemoryInit, Many}
use Rattle.rtlil_text.specs.declared.cell.RtlCell.{RtlCell}
use Rattle.rtlil_text.specs.Sources.{Source, end_bits, number_at}

-- ---- values that may be missing

-- all of them, if none is missing
abbrev pub all_of : {A : Type 0} → List (Option A) → Option (List A)
all_of [] = Some []
all_of (x ∷ xs) = option_and_then (λ v. option_map (λ vs. v ∷ vs) (all_of xs)) x

-- the values of some bits, if each has one
abbrev pub read : (Source → Option Bool) → List Source → Option (List Bool)
read value sources = all_of (map value sources)

-- the value of bit k of them
abbrev pub bit_at : (Source → Option Bool) → List Source → ℕ → Option Bool
bit_at value sources k = option_and_then value (slice_get sources k)

abbrev pub both : (Bool → Bool → Bool) → Option Bool → Option Bool → Option Bool
both f x y = option_and_then (λ a. option_map (λ b. f a b) y) x

-- ---- bits and numbers

-- bits as a number, the lowest first
abbrev pub bits_number : List Bool → ℕ
bits_number [] = 0
bits_number (b ∷ bs) = cond b 1 0 + 2 * bits_number bs

-- the low bits of a number
abbrev pub number_bits : ℕ → ℕ → List Bool
number_bits zero n = []
number_bits (suc width) n = (n % 2 == 1) ∷ number_bits width (n / 2)

-- the integer of an operand
abbrev pub integer : (signed : ℕ) → List Bool → ℤ
integer signed bits = number (signed == 1) (length bits) (bits_number bits)

abbrev pub xor : Bool → Bool → Bool
xor true b = not b
xor false b = b

-- whether the number of bits that are set is odd
abbrev pub parity : List Bool → Bool
parity [] = false
parity (b ∷ bs) = xor b (parity bs)

-- ---- the cells that take their operands whole

abbrev pub truth : Bool → ℤ
truth b = pos (cond b 1 0)

-- the integer of the output from those of A and B
abbrev pub result_of : CellKind → ℤ → ℤ → Option ℤ
result_of Add a b = Some (a +ℤ b)
result_of Sub a b = Some (a -ℤ b)
result_of Mul a b = Some (a *ℤ b)
result_of Eq a b = Some (truth (int_le a b && int_le b a))
result_of Lt a b = Some (truth (int_lt a b))
result_of Le a b = Some (truth (int_le a b))
result_of DivFloor a (pos zero) = None
result_of DivFloor a b = Some (floor_div a b)
result_of ModFloor a (pos zero) = None
result_of ModFloor a b = Some (floor_rem a b)
result_of Shl a b = Some (a *ℤ pos (2 ^ unsigned_abs b))
result_of Shr a b = Some (floor_quotient a (2 ^ unsigned_abs b))
result_of Sshr a b = Some (floor_quotient a (2 ^ unsigned_abs b))
result_of kind a b = None

-- $shl and $shr fill zeros, so they read A without a sign
abbrev pub sign_read : CellKind → ℕ → ℕ
sign_read Shl s = 0
sign_read Shr s = 0
sign_read kind s = s

abbrev pub result_bits : RtlCell → ℕ → List Bool → List Bool → Option (List Bool)
result_bits c width a b =
    option_map (λ z. number_bits width (pattern width z)) (result_of c.kind (integer (sign_read c.kind (number_at c (codes "\\A_SIGNED"))) a) (integer (number_at c (codes "\\B_SIGNED")) b))

-- one bit from all bits of A
abbrev pub reduced : CellKind → List Bool → Option Bool
reduced ReduceOr bits = Some (list_any (λ b. b) bits)
reduced ReduceAnd bits = Some (list_all (λ b. b) bits)
reduced ReduceXor bits = Some (parity bits)
reduced kind bits = None

-- ---- bit k of the output

-- both sides must have a value, whatever S is
abbrev pub mux_bit : Option Bool → Option Bool → Option Bool → Option Bool
mux_bit s a b = option_and_then (λ t. both (λ x y. cond t y x) a b) s

abbrev pub reduced_bit : (Source → Option Bool) → RtlCell → ℕ → CellKind → Option Bool
reduced_bit value c zero kind = option_and_then (reduced kind) (read value (end_bits c (codes "\\A")))
reduced_bit value c (suc k) kind = None

abbrev pub whole_bit : (Source → Option Bool) → RtlCell → ℕ → ℕ → Option Bool
whole_bit value c width k =
    option_and_then (λ a. option_and_then (λ b. option_and_then (λ y. slice_get y k) (result_bits c width a b)) (read value (end_bits c (codes "\\B")))) (read value (end_bits c (codes "\\A")))

-- bit k of the output of a cell without memory, whose output has this width
abbrev pub cell_bit : (Source → Option Bool) → RtlCell → ℕ → ℕ → CellKind → Option Bool
cell_bit value c width k Not = option_map not (bit_at value (end_bits c (codes "\\A")) k)
cell_bit value c width k And = both ◌&&◌ (bit_at value (end_bits c (codes "\\A")) k) (bit_at value (end_bits c (codes "\\B")) k)
cell_bit value c width k Or = both ◌||◌ (bit_at value (end_bits c (codes "\\A")) k) (bit_at value (end_bits c (codes "\\B")) k)
cell_bit value c width k Xor = both xor (bit_at value (end_bits c (codes "\\A")) k) (bit_at value (end_bits c (codes "\\B")) k)
cell_bit value c width k Mux = mux_bit (bit_at value (end_bits c (codes "\\S")) 0) (bit_at value (end_bits c (codes "\\A")) k) (bit_at value (end_bits c (codes "\\B")) k)
cell_bit value c width k ReduceOr = reduced_bit value c k ReduceOr
cell_bit value c width k ReduceAnd = reduced_bit value c k ReduceAnd
cell_bit value c width k ReduceXor = reduced_bit value c k ReduceXor
cell_bit value c width k Dff = None
cell_bit value c width k Adff = None
cell_bit value c width k MemoryRead = None
cell_bit value c width k MemoryWrite = None
cell_bit value c width k MemoryInit = None
cell_bit value c width k Many = None
cell_bit value c width k kind = whole_bit value c width k
