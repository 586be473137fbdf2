-- What the bits at the ends of cells make the cells carry.
use Rattle.std.proofs.Common.{◌≡◌, ◌<◌, ◌^◌, ℕ, ◌∙◌, ap}
use Rattle.std.specs.Prelude.{Some, option_map}
use Rattle.std.proofs.Math.Nat.{mod-eq_of_lt}
use Rattle.rtlil_text.specs.Cells.{bits_number, number_bits}
use Rattle.rtlil_text.proofs.CellLaws.{bits_number-number_bits}
use Rattle.memory_cells.specs.Laws.{WriteCellsCarry, ReadCellsCarry}

-- a number that fits is read back
read_back : (width n : ℕ) → n < 2 ^ width → Some (bits_number (number_bits width n)) ≡ Some n
read_back width n h = ap Some (bits_number-number_bits width n ∙ mod-eq_of_lt h)

pub write_cells_carry : WriteCellsCarry
write_cells_carry t m w p id k clock enable address word active fits is lets has = record {
  acts = active;
  address = ap (option_map bits_number) is ∙ read_back p.address _ fits;
  enable = lets;
  word = has;
}

pub read_cells_carry : ReadCellsCarry
read_cells_carry t m r p id through clock enable address word active fits is lets = record {
  acts = active;
  address = ap (option_map bits_number) is ∙ read_back p.address _ fits;
  enable = lets;
}
