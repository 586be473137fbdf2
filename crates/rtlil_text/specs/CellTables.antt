-- The parameters and the ends of each kind of cell, in order, and the end that it drives.
-- Source: Yosys manual, Cell library; the order of parameters, and the memory cells: own rules (docs/RULES.md).
use Rattle.std.specs.Prelude.{ℕ, List, [], ◌∷◌, codes}
use Rattle.shape_rules.specs.declared.cell.CellKind.{CellKind}
use Rattle.shape_rules.specs.declared.cell.CellKind.TheVariants.{Not, ReduceOr, ReduceAnd, ReduceXor, Mux, Dff, Adff, MemoryRead, MemoryWrite, MemoryInit}
use Rattle.rtlil_text.specs.declared.cell.RtlValue.{RtlValue}
use Rattle.rtlil_text.specs.declared.cell.RtlValue.TheVariants as values

-- a parameter is a number, a constant or the id of a memory
pub data ValueForm : Type 0 where
  IsNumber : ValueForm
  IsBits : ValueForm
  IsMemoryId : ValueForm

abbrev pub value_form : RtlValue → ValueForm
value_form (values.Number n) = IsNumber
value_form (values.Bits bits) = IsBits
value_form (values.Id id) = IsMemoryId

abbrev pub Named : Type 0
Named = List ℕ × ValueForm

abbrev pub unary_parameters : List Named
unary_parameters = (codes "\\A_SIGNED", IsNumber) ∷ (codes "\\A_WIDTH", IsNumber) ∷ (codes "\\Y_WIDTH", IsNumber) ∷ []

abbrev pub binary_parameters : List Named
binary_parameters = (codes "\\A_SIGNED", IsNumber) ∷ (codes "\\A_WIDTH", IsNumber) ∷ (codes "\\B_SIGNED", IsNumber) ∷ (codes "\\B_WIDTH", IsNumber) ∷ (codes "\\Y_WIDTH", IsNumber) ∷ []

abbrev pub parameters_of : CellKind → List Named
parameters_of Not = unary_parameters
parameters_of ReduceOr = unary_parameters
parameters_of ReduceAnd = unary_parameters
parameters_of ReduceXor = unary_parameters
parameters_of Mux = (codes "\\WIDTH", IsNumber) ∷ []
parameters_of Dff = (codes "\\WIDTH", IsNumber) ∷ (codes "\\CLK_POLARITY", IsNumber) ∷ []
parameters_of Adff = (codes "\\WIDTH", IsNumber) ∷ (codes "\\CLK_POLARITY", IsNumber) ∷ (codes "\\ARST_POLARITY", IsNumber) ∷ (codes "\\ARST_VALUE", IsBits) ∷ []
parameters_of MemoryRead =
    (codes "\\MEMID", IsMemoryId) ∷ (codes "\\ABITS", IsNumber) ∷ (codes "\\WIDTH", IsNumber) ∷ (codes "\\CLK_ENABLE", IsNumber) ∷ (codes "\\CLK_POLARITY", IsNumber)
    ∷ (codes "\\TRANSPARENCY_MASK", IsBits) ∷ (codes "\\COLLISION_X_MASK", IsBits) ∷ (codes "\\ARST_VALUE", IsBits) ∷ (codes "\\SRST_VALUE", IsBits) ∷ (codes "\\INIT_VALUE", IsBits) ∷ (codes "\\CE_OVER_SRST", IsNumber) ∷ []
parameters_of MemoryWrite =
    (codes "\\MEMID", IsMemoryId) ∷ (codes "\\ABITS", IsNumber) ∷ (codes "\\WIDTH", IsNumber) ∷ (codes "\\CLK_ENABLE", IsNumber) ∷ (codes "\\CLK_POLARITY", IsNumber)
    ∷ (codes "\\PORTID", IsNumber) ∷ (codes "\\PRIORITY_MASK", IsBits) ∷ []
parameters_of MemoryInit = (codes "\\MEMID", IsMemoryId) ∷ (codes "\\ABITS", IsNumber) ∷ (codes "\\WIDTH", IsNumber) ∷ (codes "\\WORDS", IsNumber) ∷ (codes "\\PRIORITY", IsNumber) ∷ []
parameters_of kind = binary_parameters

abbrev pub unary_ends : List (List ℕ)
unary_ends = codes "\\A" ∷ codes "\\Y" ∷ []

abbrev pub ends_of : CellKind → List (List ℕ)
ends_of Not = unary_ends
ends_of ReduceOr = unary_ends
ends_of ReduceAnd = unary_ends
ends_of ReduceXor = unary_ends
ends_of Mux = codes "\\A" ∷ codes "\\B" ∷ codes "\\S" ∷ codes "\\Y" ∷ []
ends_of Dff = codes "\\CLK" ∷ codes "\\D" ∷ codes "\\Q" ∷ []
ends_of Adff = codes "\\ARST" ∷ codes "\\CLK" ∷ codes "\\D" ∷ codes "\\Q" ∷ []
ends_of MemoryRead = codes "\\CLK" ∷ codes "\\EN" ∷ codes "\\ARST" ∷ codes "\\SRST" ∷ codes "\\ADDR" ∷ codes "\\DATA" ∷ []
ends_of MemoryWrite = codes "\\CLK" ∷ codes "\\EN" ∷ codes "\\ADDR" ∷ codes "\\DATA" ∷ []
ends_of MemoryInit = codes "\\ADDR" ∷ codes "\\DATA" ∷ codes "\\EN" ∷ []
ends_of kind = codes "\\A" ∷ codes "\\B" ∷ codes "\\Y" ∷ []

-- the end that a cell drives; a write and a first value of a memory drive none
abbrev pub output_of : CellKind → List ℕ
output_of Dff = codes "\\Q"
output_of Adff = codes "\\Q"
output_of MemoryRead = codes "\\DATA"
output_of MemoryWrite = []
output_of MemoryInit = []
output_of kind = codes "\\Y"
