-- Each cell at small widths, by hand: bits from the lowest on.
use Rattle.std.specs.Prelude.{◌≡◌, refl, ℕ, ◌==◌, Bool, true, false, List, [], ◌∷◌, map, length, Option, Some, None, codes}
use Rattle.std.specs.List.{range_with_len}
use Rattle.shape_rules.specs.declared.cell.CellKind.{CellKind}
use Rattle.shape_rules.specs.declared.cell.CellKind.TheVariants.{Not, And, Or, Xor, ReduceOr, ReduceAnd, ReduceXor, Add, Sub, Mul, Eq, Lt, Le, Shl, Shr, Sshr, DivFloor, ModFloor}
use Rattle.rtlil_text.specs.declared.sig.SigPart.TheVariants as parts
use Rattle.rtlil_text.specs.declared.cell.RtlCell.{RtlCell}
use Rattle.rtlil_text.specs.Sources.{Constant, Net, spec_bits}
use Rattle.rtlil_text.specs.Meaning.{source_value}
use Rattle.rtlil_text.specs.Cells.{all_of, cell_bit}
use Rattle.rtlil_text.proofs.Builders.{binary, unary, mux, bits, whole}

-- the bits of the output, where no wire has a value
abbrev output : ℕ → RtlCell → Option (List Bool)
output width c = all_of (map (λ k. cell_bit (source_value (λ wire i. None)) c width k c.kind) (range_with_len 0 width))

-- a cell on two constants
abbrev of_two : CellKind → ℕ → List Bool → List Bool → ℕ → Option (List Bool)
of_two kind signed a b width = output width (binary kind (codes "$2") signed signed (length a) (length b) width (bits a) (bits b) (whole (codes "$1") width))

-- a shift, whose amount has no sign
abbrev shift : CellKind → ℕ → List Bool → List Bool → Option (List Bool)
shift kind signed a b = output (length a) (binary kind (codes "$2") signed 0 (length a) (length b) (length a) (bits a) (bits b) (whole (codes "$1") (length a)))

abbrev of_one : CellKind → List Bool → ℕ → Option (List Bool)
of_one kind a width = output width (unary kind (codes "$2") (length a) width (bits a) (whole (codes "$1") width))

-- ---- the bits of a spec: its last part is the lowest, and so is the first bit of each list of bits

parts_in_order : spec_bits (parts.Wire (codes "\\a") 2 2 ∷ parts.Const (true ∷ false ∷ []) ∷ []) ≡ Constant true ∷ Constant false ∷ Net (codes "\\a") 2 ∷ Net (codes "\\a") 3 ∷ []
parts_in_order = refl

-- ---- four bits, as they are written: the highest first

abbrev is_one : ℕ → Bool
is_one n = n == 1

abbrev four : (a b c d : ℕ) → List Bool
four a b c d = is_one d ∷ is_one c ∷ is_one b ∷ is_one a ∷ []

not_bits : of_one Not (four 1 1 0 0) 4 ≡ Some (four 0 0 1 1)
not_bits = refl

and_bits : of_two And 0 (four 1 1 0 0) (four 1 0 1 0) 4 ≡ Some (four 1 0 0 0)
and_bits = refl

or_bits : of_two Or 0 (four 1 1 0 0) (four 1 0 1 0) 4 ≡ Some (four 1 1 1 0)
or_bits = refl

xor_bits : of_two Xor 0 (four 1 1 0 0) (four 1 0 1 0) 4 ≡ Some (four 0 1 1 0)
xor_bits = refl

some_bit_is_set : of_one ReduceOr (four 0 1 0 0) 1 ≡ Some (true ∷ [])
some_bit_is_set = refl

no_bit_is_set : of_one ReduceOr (four 0 0 0 0) 1 ≡ Some (false ∷ [])
no_bit_is_set = refl

all_bits_are_set : of_one ReduceAnd (four 1 1 1 1) 1 ≡ Some (true ∷ [])
all_bits_are_set = refl

not_all_bits_are_set : of_one ReduceAnd (four 1 1 0 1) 1 ≡ Some (false ∷ [])
not_all_bits_are_set = refl

parity_of_three : of_one ReduceXor (four 1 1 0 1) 1 ≡ Some (true ∷ [])
parity_of_three = refl

parity_of_two : of_one ReduceXor (four 1 0 0 1) 1 ≡ Some (false ∷ [])
parity_of_two = refl

-- 9 + 8 is 17, of which 1 is left
sum_past_the_width : of_two Add 0 (four 1 0 0 1) (four 1 0 0 0) 4 ≡ Some (four 0 0 0 1)
sum_past_the_width = refl

-- 3 - 5 is -2
difference_below_zero : of_two Sub 0 (four 0 0 1 1) (four 0 1 0 1) 4 ≡ Some (four 1 1 1 0)
difference_below_zero = refl

-- -3 * 2 is -6
product_with_sign : of_two Mul 1 (four 1 1 0 1) (four 0 0 1 0) 4 ≡ Some (four 1 0 1 0)
product_with_sign = refl

equal : of_two Eq 0 (four 1 0 0 1) (four 1 0 0 1) 1 ≡ Some (true ∷ [])
equal = refl

unequal : of_two Eq 0 (four 1 0 0 1) (four 0 0 0 1) 1 ≡ Some (false ∷ [])
unequal = refl

-- -1 is below 1, and 15 is not
less_with_sign : of_two Lt 1 (four 1 1 1 1) (four 0 0 0 1) 1 ≡ Some (true ∷ [])
less_with_sign = refl

less_without_sign : of_two Lt 0 (four 1 1 1 1) (four 0 0 0 1) 1 ≡ Some (false ∷ [])
less_without_sign = refl

not_less_than_itself : of_two Lt 0 (four 0 1 1 1) (four 0 1 1 1) 1 ≡ Some (false ∷ [])
not_less_than_itself = refl

at_most_itself : of_two Le 0 (four 0 1 1 1) (four 0 1 1 1) 1 ≡ Some (true ∷ [])
at_most_itself = refl

left_by_two : shift Shl 0 (four 0 0 1 1) (four 0 0 1 0) ≡ Some (four 1 1 0 0)
left_by_two = refl

left_past_the_width : shift Shl 0 (four 0 0 1 1) (four 0 1 0 1) ≡ Some (four 0 0 0 0)
left_past_the_width = refl

-- zeros are filled also where A has a sign
right_by_two : shift Shr 1 (four 1 1 0 0) (four 0 0 1 0) ≡ Some (four 0 0 1 1)
right_by_two = refl

right_past_the_width : shift Shr 0 (four 1 1 0 0) (four 1 0 0 1) ≡ Some (four 0 0 0 0)
right_past_the_width = refl

-- an amount with its highest bit set has no sign
right_with_sign : shift Sshr 1 (four 1 0 0 0) (four 0 0 0 1) ≡ Some (four 1 1 0 0)
right_with_sign = refl

right_with_sign_past_the_width : shift Sshr 1 (four 1 0 0 0) (four 1 0 0 1) ≡ Some (four 1 1 1 1)
right_with_sign_past_the_width = refl

-- -7 // 2 is -4, and the remainder is 1
quotient_rounds_down : of_two DivFloor 1 (four 1 0 0 1) (four 0 0 1 0) 4 ≡ Some (four 1 1 0 0)
quotient_rounds_down = refl

remainder_of_a_negative : of_two ModFloor 1 (four 1 0 0 1) (four 0 0 1 0) 4 ≡ Some (four 0 0 0 1)
remainder_of_a_negative = refl

-- 7 // -2 is -4, and the remainder is -1
quotient_by_a_negative : of_two DivFloor 1 (four 0 1 1 1) (four 1 1 1 0) 4 ≡ Some (four 1 1 0 0)
quotient_by_a_negative = refl

remainder_by_a_negative : of_two ModFloor 1 (four 0 1 1 1) (four 1 1 1 0) 4 ≡ Some (four 1 1 1 1)
remainder_by_a_negative = refl

-- 14 // 3 is 4
quotient_without_sign : of_two DivFloor 0 (four 1 1 1 0) (four 0 0 1 1) 4 ≡ Some (four 0 1 0 0)
quotient_without_sign = refl

division_by_zero : of_two DivFloor 0 (four 1 1 1 0) (four 0 0 0 0) 4 ≡ None
division_by_zero = refl

remainder_by_zero : of_two ModFloor 1 (four 1 1 1 0) (four 0 0 0 0) 4 ≡ None
remainder_by_zero = refl

-- B where S is 1, else A
second_side : output 1 (mux (codes "$2") 1 (bits (false ∷ [])) (bits (true ∷ [])) (bits (true ∷ [])) (whole (codes "$1") 1)) ≡ Some (true ∷ [])
second_side = refl

first_side : output 1 (mux (codes "$2") 1 (bits (false ∷ [])) (bits (true ∷ [])) (bits (false ∷ [])) (whole (codes "$1") 1)) ≡ Some (false ∷ [])
first_side = refl

-- the side that is not taken has no value here, and so the output has none
undefined_side : output 1 (mux (codes "$2") 1 (whole (codes "\\x") 1) (bits (true ∷ [])) (bits (true ∷ [])) (whole (codes "$1") 1)) ≡ None
undefined_side = refl
