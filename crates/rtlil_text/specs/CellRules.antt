-- The rules on the parameters and the ends of a cell that is no memory cell.
-- Source: Yosys manual, Cell library: unary and binary operators, multiplexers, registers; equal widths: own rule (docs/RULES.md).
use Rattle.std.specs.Prelude.{◌≡◌, ◌≤◌, ℕ, List, length, codes}
use Rattle.rtlil_text.specs.declared.cell.RtlCell.{RtlCell}
use Rattle.rtlil_text.specs.Sources.{end_width, number_at, bits_at}

-- a width parameter is the width of its end
abbrev pub GivesWidth : RtlCell → (parameter end : List ℕ) → Type 0
GivesWidth c parameter end = number_at c parameter ≡ end_width c end

-- a parameter is 0 or 1
abbrev pub IsFlag : RtlCell → List ℕ → Type 0
IsFlag c parameter = number_at c parameter ≤ 1

-- A and Y with their widths
pub record HasUnaryWidths (c : RtlCell) : Type 0 where
  pub a : GivesWidth c (codes "\\A_WIDTH") (codes "\\A")
  pub y : GivesWidth c (codes "\\Y_WIDTH") (codes "\\Y")
  pub sign : IsFlag c (codes "\\A_SIGNED")

-- A, B and Y with their widths
pub record HasBinaryWidths (c : RtlCell) : Type 0 where
  pub a : GivesWidth c (codes "\\A_WIDTH") (codes "\\A")
  pub b : GivesWidth c (codes "\\B_WIDTH") (codes "\\B")
  pub y : GivesWidth c (codes "\\Y_WIDTH") (codes "\\Y")
  pub sign_a : IsFlag c (codes "\\A_SIGNED")
  pub sign_b : IsFlag c (codes "\\B_SIGNED")

pub record FitsNot (c : RtlCell) : Type 0 where
  pub widths : HasUnaryWidths c
  pub equal : end_width c (codes "\\A") ≡ end_width c (codes "\\Y")

pub record FitsReduction (c : RtlCell) : Type 0 where
  pub widths : HasUnaryWidths c
  pub one : end_width c (codes "\\Y") ≡ 1

-- bitwise cells, arithmetic and division
pub record FitsArithmetic (c : RtlCell) : Type 0 where
  pub widths : HasBinaryWidths c
  pub equal_b : end_width c (codes "\\A") ≡ end_width c (codes "\\B")
  pub equal_y : end_width c (codes "\\A") ≡ end_width c (codes "\\Y")
  pub same_sign : number_at c (codes "\\A_SIGNED") ≡ number_at c (codes "\\B_SIGNED")

pub record FitsComparison (c : RtlCell) : Type 0 where
  pub widths : HasBinaryWidths c
  pub equal : end_width c (codes "\\A") ≡ end_width c (codes "\\B")
  pub one : end_width c (codes "\\Y") ≡ 1
  pub same_sign : number_at c (codes "\\A_SIGNED") ≡ number_at c (codes "\\B_SIGNED")

pub record FitsShift (c : RtlCell) : Type 0 where
  pub widths : HasBinaryWidths c
  pub equal : end_width c (codes "\\A") ≡ end_width c (codes "\\Y")
  pub unsigned : number_at c (codes "\\B_SIGNED") ≡ 0

-- the shift that fills with the sign
pub record FitsSignedShift (c : RtlCell) : Type 0 where
  pub shift : FitsShift c
  pub signed : number_at c (codes "\\A_SIGNED") ≡ 1

pub record FitsMux (c : RtlCell) : Type 0 where
  pub a : GivesWidth c (codes "\\WIDTH") (codes "\\A")
  pub b : GivesWidth c (codes "\\WIDTH") (codes "\\B")
  pub y : GivesWidth c (codes "\\WIDTH") (codes "\\Y")
  pub one : end_width c (codes "\\S") ≡ 1

pub record FitsRegister (c : RtlCell) : Type 0 where
  pub d : GivesWidth c (codes "\\WIDTH") (codes "\\D")
  pub q : GivesWidth c (codes "\\WIDTH") (codes "\\Q")
  pub clock : end_width c (codes "\\CLK") ≡ 1
  pub edge : IsFlag c (codes "\\CLK_POLARITY")

pub record FitsResetRegister (c : RtlCell) : Type 0 where
  pub register : FitsRegister c
  pub reset : end_width c (codes "\\ARST") ≡ 1
  pub level : IsFlag c (codes "\\ARST_POLARITY")
  pub value : length (bits_at c (codes "\\ARST_VALUE")) ≡ number_at c (codes "\\WIDTH")
