-- The bits of operands: the whole of a wire, part of it, or it with its sign or zeros before it.
use Rattle.std.specs.Prelude.{ℕ, zero, suc, ◌-◌, Bool, false, nat_lt, if◌then◌else◌, List, [], ◌∷◌, ◌++◌, replicate, ℤ}
use Rattle.amh_bits.specs.Patterns.{pattern}
use Rattle.shape_rules.specs.Forms.{Form}
use Rattle.rtlil_text.specs.declared.sig.SigPart.{SigPart}
use Rattle.rtlil_text.specs.declared.sig.SigPart.TheVariants as parts
use Rattle.rtlil_text.specs.Cells.{number_bits}
use Rattle.netlist_laws.specs.Cells.{Operand}

-- bits of a wire, of which a spec has none where there are none
abbrev pub wire_part : List ℕ → (low width : ℕ) → List SigPart
wire_part id low zero = []
wire_part id low (suc n) = parts.Wire id low (suc n) ∷ []

abbrev pub const_part : List Bool → List SigPart
const_part [] = []
const_part (b ∷ bs) = parts.Const (b ∷ bs) ∷ []

-- a number as a constant of this width
abbrev pub const_spec : ℕ → ℤ → List SigPart
const_spec width z = const_part (number_bits width (pattern width z))

-- the highest bit of a wire, so many times, or zeros
abbrev pub filling : List ℕ → Form → ℕ → List SigPart
filling id f n = if f.signed then replicate n (parts.Wire id (f.width - 1) 1) else const_part (replicate n false)

-- the number of a wire of this shape at a width: its low bits, or all of them behind its sign or zeros
abbrev pub at_width : List ℕ → Form → ℕ → List SigPart
at_width id f width = if nat_lt width f.width then wire_part id 0 width else filling id f (width - f.width) ++ wire_part id 0 f.width

-- the same at a shape
abbrev pub at_form : List ℕ → Form → Form → Operand
at_form id f g = record { spec = at_width id f g.width; form = g }

-- a number as an operand of a shape
abbrev pub const_operand : Form → ℤ → Operand
const_operand g z = record { spec = const_spec g.width z; form = g }
