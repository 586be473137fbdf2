-- A memory of three rows with a write port and a read port at once, as a design and as a module with guards: one history.
use Rattle.std.specs.Prelude.{◌≡◌, refl, ℕ, zero, suc, ◌<◌, Bool, true, false, List, [], ◌∷◌, map, replicate, ℤ, pos, Option, Some, None, codes}
use Rattle.std.proofs.Common.{arith}
use Rattle.shape_rules.specs.Forms.{unsigned}
use Rattle.shape_rules.specs.declared.cell.CellKind.TheVariants.{Lt}
use Rattle.design_ir.specs.declared.memory.MemWrite.{MemWrite}
use Rattle.design_ir.specs.declared.memory.Memory.{Memory}
use Rattle.design_ir.specs.declared.event.Event.{Event}
use Rattle.design_ir.specs.declared.event.Event.TheVariants.{Edge}
use Rattle.design_ir.specs.Values.{form, num}
use Rattle.design_ir.specs.Circuits.{Circuit}
use Rattle.design_ir.specs.Histories.{History}
use Rattle.design_ir.proofs.SanityParts.{signal, e, s, input, output, gives, toggles}
use Rattle.rtlil_text.specs.declared.sig.SigPart.{SigPart}
use Rattle.rtlil_text.specs.declared.sig.SigPart.TheVariants as parts
use Rattle.rtlil_text.specs.declared.cell.RtlCell.{RtlCell}
use Rattle.rtlil_text.specs.declared.module.WirePort.TheVariants.{Input, Output, Inner}
use Rattle.rtlil_text.specs.declared.module.RtlModule.{RtlModule}
use Rattle.rtlil_text.specs.Meaning.{Inputs}
use Rattle.rtlil_text.specs.History.{Wires, wire_bit, rtl_history, first_state}
use Rattle.rtlil_text.proofs.Builders.{wire, whole, bits, binary, mux}
use Rattle.memory_cells.specs.declared.clock.Clock.{Clock}
use Rattle.memory_cells.specs.declared.plan.Plan.{Plan}
use Rattle.memory_cells.specs.Plans.{planned}
use Rattle.memory_cells.specs.Cells.{init_cell, write_cell, comb_read}
use Rattle.memory_cells.specs.Carried.{Moment, CarriesWrite}

-- ---- the design: clk, the address, word and enable of the write port, the address of the read port and its word

abbrev pub port : MemWrite
port = record { domain = codes "sync"; addr = e 0; word = e 1; enable = e 2; granularity = 2 }

abbrev memory : Memory
memory = record {
  name = codes "m";
  shape = unsigned 4;
  depth = 3;
  rows = pos 1 ∷ pos 2 ∷ pos 3 ∷ [];
  writes = port ∷ [];
  reads = record { domain = None; addr = e 3; word = record { 0 = 5 }; enable = None; transparent = [] } ∷ [];
}

design : Circuit
design = record {
  pool = record {
    signals = signal (unsigned 1) (pos 0) ∷ signal (unsigned 2) (pos 2) ∷ signal (unsigned 4) (pos 12) ∷ signal (unsigned 2) (pos 2) ∷ signal (unsigned 2) (pos 0) ∷ signal (unsigned 4) (pos 0) ∷ [];
    exprs = s 1 ∷ s 2 ∷ s 3 ∷ s 4 ∷ [];
  };
  processes = [];
  memories = memory ∷ [];
  domains = record { name = codes "sync"; clk = record { 0 = 0 }; rst = None; falling = false; async_reset = false } ∷ [];
  ports = input 0 ∷ input 1 ∷ input 2 ∷ input 3 ∷ input 4 ∷ output 5 ∷ [];
  columns = [];
}

-- ---- the module: guards before the write and round the read

abbrev pub plan : Plan
plan = record { id = codes "\\m"; address = 2; width = 4; depth = 3; writes = 1 }

abbrev pub clock : Clock
clock = record { bit = whole (codes "\\clk") 1; falling = false }

-- each bit of the enable for a granule of two bits
abbrev pub spread : List SigPart
spread = parts.Wire (codes "\\n") 1 1 ∷ parts.Wire (codes "\\n") 1 1 ∷ parts.Wire (codes "\\n") 0 1 ∷ parts.Wire (codes "\\n") 0 1 ∷ []

abbrev pub in_range : List ℕ → List ℕ → List ℕ → RtlCell
in_range id address y = binary Lt id 0 0 2 2 1 (whole address 2) (bits (true ∷ true ∷ [])) (whole y 1)

-- 0 where the one bit of s is 0
abbrev pub guard : List ℕ → ℕ → List SigPart → List ℕ → List ℕ → RtlCell
guard id width b s y = mux id width (bits (replicate width false)) b (whole s 1) (whole y width)

module_cells : List RtlCell
module_cells =
    in_range (codes "$10") (codes "\\a") (codes "$1") ∷ guard (codes "$11") 2 (whole (codes "\\a") 2) (codes "$1") (codes "$2") ∷ guard (codes "$12") 4 spread (codes "$1") (codes "$3")
    ∷ in_range (codes "$13") (codes "\\r") (codes "$4") ∷ guard (codes "$14") 2 (whole (codes "\\r") 2) (codes "$4") (codes "$5")
    ∷ init_cell plan (codes "$15") memory.rows ∷ write_cell plan (codes "$16") 0 clock (whole (codes "$3") 4) (whole (codes "$2") 2) (whole (codes "\\w") 4)
    ∷ comb_read plan (codes "$17") (whole (codes "$5") 2) (whole (codes "$6") 4) ∷ guard (codes "$18") 4 (whole (codes "$6") 4) (codes "$4") (codes "\\d") ∷ []

lowered : RtlModule
lowered = record {
  wires =
      wire (codes "\\clk") 1 (Input 1) ∷ wire (codes "\\a") 2 (Input 2) ∷ wire (codes "\\w") 4 (Input 3) ∷ wire (codes "\\n") 2 (Input 4) ∷ wire (codes "\\r") 2 (Input 5) ∷ wire (codes "\\d") 4 (Output 6)
      ∷ wire (codes "$1") 1 Inner ∷ wire (codes "$2") 2 Inner ∷ wire (codes "$3") 4 Inner ∷ wire (codes "$4") 1 Inner ∷ wire (codes "$5") 2 Inner ∷ wire (codes "$6") 4 Inner ∷ [];
  memories = planned plan ∷ [];
  cells = module_cells;
  links = [];
}

-- ---- both over the same events

-- the clock, the address that is written, and the one that is read
numbers : ℕ → ℕ → ℕ → ℕ → List ℤ
numbers clk a r d = pos clk ∷ pos a ∷ pos 12 ∷ pos 2 ∷ pos r ∷ pos d ∷ []

inputs : Bool → List Bool → List Bool → Inputs
inputs clk a r = (codes "\\clk", clk ∷ []) ∷ (codes "\\a", a) ∷ (codes "\\w", false ∷ false ∷ true ∷ true ∷ []) ∷ (codes "\\n", false ∷ true ∷ []) ∷ (codes "\\r", r) ∷ []

-- the highest bit first
unfoldable pub seen : Wires → List (Option Bool)
seen wires = wires (codes "\\d") 3 ∷ wires (codes "\\d") 2 ∷ wires (codes "\\d") 1 ∷ wires (codes "\\d") 0 ∷ []

unfoldable pub four : Bool → Bool → Bool → Bool → List (Option Bool)
four a b c d = Some a ∷ Some b ∷ Some c ∷ Some d ∷ []

unfoldable pub rise : Event
rise = Edge (toggles 0 ∷ [])

-- row 0 is 1 and row 2 is 3; the edge puts 12 into the upper half of row 2, which is 15 then; past the depth 0 is read; the next
-- rise would write past the depth, and leaves the rows as they are
design_runs : History design (gives 4 (pos 2) ∷ rise ∷ gives 4 (pos 3) ∷ rise ∷ gives 1 (pos 3) ∷ rise ∷ gives 4 (pos 0) ∷ [])
    (numbers 0 2 0 1 ∷ numbers 0 2 2 3 ∷ numbers 1 2 2 15 ∷ numbers 1 2 3 0 ∷ numbers 0 2 3 0 ∷ numbers 0 3 3 0 ∷ numbers 1 3 3 0 ∷ numbers 1 3 0 1 ∷ [])
unfolding design numbers rise form num
design_runs = (refl, (refl, (refl, (refl, (refl, (refl, (refl, refl)))))))

unfoldable pub two : List Bool
two = false ∷ true ∷ []

unfoldable pub three : List Bool
three = true ∷ true ∷ []

unfoldable pub none : List Bool
none = false ∷ false ∷ []

module_runs : map seen (rtl_history lowered (inputs false two none) (inputs false two two ∷ inputs true two two ∷ inputs true two three ∷ inputs false two three ∷ inputs false three three ∷ inputs true three three ∷ inputs true three none ∷ []))
    ≡ four false false false true ∷ four false false true true ∷ four true true true true ∷ four false false false false ∷ four false false false false ∷ four false false false false ∷ four false false false false ∷ four false false false true ∷ []
unfolding lowered module_cells inputs seen four two three none wire_bit
module_runs = refl

-- ---- what the laws ask of the wires holds here: at an address of a row, and past the depth

moment : ℕ → List Bool → Moment
moment a wires = record {
  design = design;
  env = numbers 0 a 0 1;
  listed = toggles 0 ∷ [];
  rtl = lowered;
  st = first_state lowered;
  old = inputs false wires none;
  new = inputs true wires none;
}

abbrev written : RtlCell
written = write_cell plan (codes "$16") 0 clock (whole (codes "$3") 4) (whole (codes "$2") 2) (whole (codes "\\w") 4)

-- the same for each of four bits
pub each : (P : ℕ → Type 0) → P 0 → P 1 → P 2 → P 3 → (k : ℕ) → k < 4 → P k
each P a b c d zero h = a
each P a b c d (suc zero) h = b
each P a b c d (suc (suc zero)) h = c
each P a b c d (suc (suc (suc zero))) h = d
each P a b c d (suc (suc (suc (suc k)))) h = absurd (omega (arith, h))

within : CarriesWrite (moment 2 two) memory written port
unfolding moment design numbers lowered module_cells inputs two none wire_bit form num
within = record { acts = refl; address = refl; enable = each _ refl refl refl refl; word = each _ refl refl refl refl }

past : CarriesWrite (moment 3 three) memory written port
unfolding moment design numbers lowered module_cells inputs three none wire_bit form num
past = record { acts = refl; address = refl; enable = each _ refl refl refl refl; word = each _ refl refl refl refl }
