-- A register of a falling domain whose reset acts at once: the cell that is drawn for it, and such a cell over events.
use Rattle.std.specs.Prelude.{◌≡◌, refl, ℕ, Bool, true, false, List, [], ◌∷◌, map, pos, Option, Some, codes}
use Rattle.shape_rules.specs.Forms.{unsigned}
use Rattle.shape_rules.specs.declared.cell.CellKind.TheVariants.{Adff}
use Rattle.design_ir.specs.declared.expr.Expr.TheVariants.{Const}
use Rattle.design_ir.specs.declared.port.Column.{Column}
use Rattle.design_ir.specs.Trees.{done, next}
use Rattle.design_ir.specs.Values.{form}
use Rattle.design_ir.specs.Targets.{target_signals}
use Rattle.design_ir.specs.Circuits.{Circuit}
use Rattle.design_ir.proofs.SanityParts.{signal, s, set, clocked_by, input, output, falling_domain}
use Rattle.rtlil_text.specs.declared.module.RtlModule.{RtlModule}
use Rattle.rtlil_text.specs.declared.module.WirePort.TheVariants.{Input, Output}
use Rattle.rtlil_text.specs.Meaning.{Inputs}
use Rattle.rtlil_text.specs.History.{Wires, wire_bit, rtl_history}
use Rattle.rtlil_text.proofs.Builders.{wire, whole}
use Rattle.netlist_laws.specs.Ids.{value_id, step_id}
use Rattle.netlist_laws.specs.Cells.{number_parameter, bits_parameter, end_at}
use Rattle.netlist_laws.specs.Latest.{places}
use Rattle.netlist_laws.specs.Spelled.{spec_of}
use Rattle.netlist_laws.specs.Module.{clear_cell, signal_drawing}

-- ---- what is drawn

column : List ℕ → ℕ → Column
column name n = record { name = name; sig = record { 0 = n } }

-- clk, rst, and q, which begins at 1 and takes 0
design : Circuit
design = record {
  pool = record {
    signals = signal (unsigned 1) (pos 0) ∷ signal (unsigned 1) (pos 0) ∷ signal (unsigned 1) (pos 1) ∷ [];
    exprs = s 2 ∷ Const (pos 0) (unsigned 1) ∷ [];
  };
  processes = clocked_by 0 (next (set 0 1) done) ∷ [];
  memories = [];
  domains = record (falling_domain (codes "sync") 0 1) { async_reset = true } ∷ [];
  ports = input 0 ∷ input 1 ∷ output 2 ∷ [];
  columns = column (codes "clk") 0 ∷ column (codes "rst") 1 ∷ column (codes "q") 2 ∷ [];
}

-- no multiplexer stands before it
cleared_at_once : (signal_drawing design 2).cells
    ≡ record {
      kind = Adff;
      id = step_id 6;
      parameters =
          number_parameter (codes "\\WIDTH") 1 ∷ number_parameter (codes "\\CLK_POLARITY") 0
          ∷ number_parameter (codes "\\ARST_POLARITY") 1 ∷ bits_parameter (codes "\\ARST_VALUE") (true ∷ []) ∷ [];
      ends =
          end_at (codes "\\ARST") (whole (codes "\\rst") 1) ∷ end_at (codes "\\CLK") (whole (codes "\\clk") 1)
          ∷ end_at (codes "\\D") (whole (value_id 1) 1) ∷ end_at (codes "\\Q") (whole (codes "\\q") 1) ∷ [];
    } ∷ []
unfolding design column form target_signals places spec_of
cleared_at_once = refl

-- ---- over events

-- q takes d where the clock falls, and is 1 while the reset is 1
lowered : RtlModule
lowered = record {
  wires =
      wire (codes "\\clk") 1 (Input 1) ∷ wire (codes "\\rst") 1 (Input 2) ∷ wire (codes "\\d") 1 (Input 3)
      ∷ record { id = codes "\\q"; width = 1; port = Output 4; init = Some (true ∷ []) } ∷ [];
  memories = [];
  cells =
      clear_cell (codes "$1") 1 (record { bit = whole (codes "\\clk") 1; falling = true }) (whole (codes "\\rst") 1) (true ∷ []) (whole (codes "\\d") 1) (whole (codes "\\q") 1) ∷ [];
  links = [];
}

inputs : (clk rst d : Bool) → Inputs
inputs clk rst d = (codes "\\clk", clk ∷ []) ∷ (codes "\\rst", rst ∷ []) ∷ (codes "\\d", d ∷ []) ∷ []

seen : Wires → Option Bool
seen wires = wires (codes "\\q") 0

-- a rise, a fall, the reset rises, a rise and a fall under it, it falls, a rise and a fall
clears_at_once : map seen (rtl_history lowered (inputs false false false)
    (inputs true false false ∷ inputs false false false ∷ inputs false true false ∷ inputs true true false ∷ inputs false true false ∷ inputs false false false ∷ inputs true false false ∷ inputs false false false ∷ []))
    ≡ Some true ∷ Some true ∷ Some false ∷ Some true ∷ Some true ∷ Some true ∷ Some true ∷ Some true ∷ Some false ∷ []
unfolding lowered inputs seen wire_bit
clears_at_once = refl
