-- The first rows of a memory.
use Rattle.std.proofs.Common.{◌≡◌, ℕ, zero, suc, ◌+◌, ◌*◌, ◌<◌, ◌==◌, Bool, if◌then◌else◌, List, [], ◌∷◌, ◌++◌, map, length, ℤ, ◌∙◌, ap, arith}
use Rattle.std.specs.Prelude.{Some, None, slice_get, option_map, option_and_then}
use Rattle.std.proofs.lemmas.Bool.{lt-ltb}
use Rattle.std.proofs.Math.Nat.{suc-mul}
use Rattle.amh_bits.specs.Patterns.{pattern}
use Rattle.amh_bits.proofs.BitsOf.{bit_pattern}
use Rattle.design_ir.specs.Circuits.{at}
use Rattle.design_ir.proofs.Elements.{get_append_left, get_append_right}
use Rattle.rtlil_text.specs.Sources.{Constant}
use Rattle.rtlil_text.specs.History.{constant_value}
use Rattle.rtlil_text.proofs.CellLaws.{slice_get-number_bits, length-number_bits}
use Rattle.memory_cells.specs.Bits.{bit_of, row_bits, rows_bits}
use Rattle.memory_cells.specs.Laws.{RowsBegin}

row_bit : (width : ℕ) (z : ℤ) (k : ℕ) → k < width → slice_get (row_bits width z) k ≡ Some (bit_of z k)
row_bit width z k lt = slice_get-number_bits width (pattern width z) k lt ∙ ap (λ b. Some (b == 1)) (bit_pattern z width k lt)

rows_at : (width : ℕ) (rows : List ℤ) (row k : ℕ) → row < length rows → k < width → slice_get (rows_bits width rows) (row * width + k) ≡ Some (bit_of (at rows row) k)
rows_at width [] row k there lt = absurd (omega (arith, there))
rows_at width (z ∷ rows) zero k there lt =
    let first : zero * width + k ≡ k = omega arith in
    ap (slice_get (row_bits width z ++ rows_bits width rows)) first ∙ get_append_left (row_bits width z) (rows_bits width rows) k (bit_of z k) (row_bit width z k lt)
rows_at width (z ∷ rows) (suc row) k there lt =
    let long = length-number_bits width (pattern width z) in
    let size = suc-mul row width in
    let later : suc row * width + k ≡ length (row_bits width z) + (row * width + k) = omega (arith, long, size) in
    ap (slice_get (row_bits width z ++ rows_bits width rows)) later ∙ get_append_right (row_bits width z) (rows_bits width rows) (row * width + k) ∙ rows_at width rows row k (omega (arith, there)) lt

get-constants : (bits : List Bool) (j : ℕ) (b : Bool) → slice_get bits j ≡ Some b → slice_get (map Constant bits) j ≡ Some (Constant b)
get-constants [] j b e = cc
get-constants (x ∷ bits) zero b e = ap (option_map Constant) e
get-constants (x ∷ bits) (suc j) b e = get-constants bits j b e

pub rows_begin : RowsBegin
rows_begin p id rows row k there lt =
    ap (λ (b : Bool). if b then option_and_then constant_value (slice_get (map Constant (rows_bits p.width rows)) (row * p.width + k)) else None) (lt-ltb k p.width lt)
    ∙ ap (option_and_then constant_value) (get-constants (rows_bits p.width rows) (row * p.width + k) (bit_of (at rows row) k) (rows_at p.width rows row k there lt))
