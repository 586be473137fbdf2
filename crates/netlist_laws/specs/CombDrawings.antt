-- What wires obey of a drawing that may have registers: what a register keeps, a state gives.
use Rattle.std.specs.Prelude.{◌≡◌, false, All}
use Rattle.rtlil_text.specs.declared.cell.RtlCell.{RtlCell}
use Rattle.rtlil_text.specs.Meaning.{is_kept}
use Rattle.rtlil_text.specs.History.{Wires}
use Rattle.netlist_laws.specs.Operators.{Drawing}
use Rattle.netlist_laws.specs.Carried.{ObeysCell, ObeysLink}

-- a cell that keeps nothing makes the bits at its output
abbrev pub ObeysUnkept : Wires → RtlCell → Type 0
ObeysUnkept wires c = is_kept c ≡ false → ObeysCell wires c

pub record ObeysComb (wires : Wires) (d : Drawing) : Type 0 where
  pub cells : All (ObeysUnkept wires) d.cells
  pub links : All (ObeysLink wires) d.links
