-- The same memory read at the clock, transparently, with the flag that keeps whether the last address was one of a row: one history.
use Rattle.std.specs.Prelude.{◌≡◌, refl, ℕ, Bool, true, false, List, [], ◌∷◌, map, ℤ, pos, Some, None, codes}
use Rattle.shape_rules.specs.Forms.{unsigned}
use Rattle.design_ir.specs.declared.memory.MemRead.{MemRead}
use Rattle.design_ir.specs.declared.memory.Memory.{Memory}
use Rattle.design_ir.specs.Values.{form, num}
use Rattle.design_ir.specs.Circuits.{Circuit}
use Rattle.design_ir.specs.Histories.{History}
use Rattle.design_ir.proofs.SanityParts.{signal, e, s, input, output, gives, toggles}
use Rattle.rtlil_text.specs.declared.cell.RtlCell.{RtlCell}
use Rattle.rtlil_text.specs.declared.module.WirePort.TheVariants.{Input, Output, Inner}
use Rattle.rtlil_text.specs.declared.module.RtlModule.{RtlModule}
use Rattle.rtlil_text.specs.Meaning.{Inputs}
use Rattle.rtlil_text.specs.History.{wire_bit, rtl_history, first_state}
use Rattle.rtlil_text.proofs.Builders.{wire, whole, mux, register}
use Rattle.memory_cells.specs.Plans.{planned}
use Rattle.memory_cells.specs.Cells.{init_cell, write_cell, clocked_read}
use Rattle.memory_cells.specs.Carried.{Moment, CarriesRead}
use Rattle.memory_cells.proofs.Spike.{port, plan, clock, spread, in_range, guard, rise, two, three, none, four, seen}

-- ---- the design: clk, the write port, the read port's address and enable, and its word

abbrev read_port : MemRead
read_port = record { domain = Some (codes "sync"); addr = e 3; word = record { 0 = 6 }; enable = Some (e 4); transparent = 0 ∷ [] }

abbrev memory : Memory
memory = record {
  name = codes "m";
  shape = unsigned 4;
  depth = 3;
  rows = pos 1 ∷ pos 2 ∷ pos 3 ∷ [];
  writes = port ∷ [];
  reads = read_port ∷ [];
}

design : Circuit
design = record {
  pool = record {
    signals =
        signal (unsigned 1) (pos 0) ∷ signal (unsigned 2) (pos 2) ∷ signal (unsigned 4) (pos 12) ∷ signal (unsigned 2) (pos 2) ∷ signal (unsigned 2) (pos 2) ∷ signal (unsigned 1) (pos 1)
        ∷ signal (unsigned 4) (pos 0) ∷ [];
    exprs = s 1 ∷ s 2 ∷ s 3 ∷ s 4 ∷ s 5 ∷ [];
  };
  processes = [];
  memories = memory ∷ [];
  domains = record { name = codes "sync"; clk = record { 0 = 0 }; rst = None; falling = false; async_reset = false } ∷ [];
  ports = input 0 ∷ input 1 ∷ input 2 ∷ input 3 ∷ input 4 ∷ input 5 ∷ output 6 ∷ [];
  columns = [];
}

-- ---- the module: the flag is $7, and takes $4 where the port is enabled

abbrev reading : RtlCell
reading = clocked_read plan (codes "$17") (0 ∷ []) clock (whole (codes "\\e") 1) (whole (codes "$5") 2) (whole (codes "$6") 4)

module_cells : List RtlCell
module_cells =
    in_range (codes "$10") (codes "\\a") (codes "$1") ∷ guard (codes "$11") 2 (whole (codes "\\a") 2) (codes "$1") (codes "$2") ∷ guard (codes "$12") 4 spread (codes "$1") (codes "$3")
    ∷ in_range (codes "$13") (codes "\\r") (codes "$4") ∷ guard (codes "$14") 2 (whole (codes "\\r") 2) (codes "$4") (codes "$5")
    ∷ init_cell plan (codes "$15") memory.rows ∷ write_cell plan (codes "$16") 0 clock (whole (codes "$3") 4) (whole (codes "$2") 2) (whole (codes "\\w") 4)
    ∷ reading ∷ mux (codes "$19") 1 (whole (codes "$7") 1) (whole (codes "$4") 1) (whole (codes "\\e") 1) (whole (codes "$8") 1)
    ∷ register (codes "$20") 1 1 (whole (codes "\\clk") 1) (whole (codes "$8") 1) (whole (codes "$7") 1) ∷ guard (codes "$18") 4 (whole (codes "$6") 4) (codes "$7") (codes "\\d") ∷ []

lowered : RtlModule
lowered = record {
  wires =
      wire (codes "\\clk") 1 (Input 1) ∷ wire (codes "\\a") 2 (Input 2) ∷ wire (codes "\\w") 4 (Input 3) ∷ wire (codes "\\n") 2 (Input 4) ∷ wire (codes "\\r") 2 (Input 5) ∷ wire (codes "\\e") 1 (Input 6) ∷ wire (codes "\\d") 4 (Output 7)
      ∷ wire (codes "$1") 1 Inner ∷ wire (codes "$2") 2 Inner ∷ wire (codes "$3") 4 Inner ∷ wire (codes "$4") 1 Inner ∷ wire (codes "$5") 2 Inner ∷ wire (codes "$6") 4 Inner
      ∷ record { id = codes "$7"; width = 1; port = Inner; init = Some (false ∷ []) } ∷ wire (codes "$8") 1 Inner ∷ [];
  memories = planned plan ∷ [];
  cells = module_cells;
  links = [];
}

-- ---- both over the same events

-- the clock, the address that is read, its enable, and the word
numbers : ℕ → ℕ → ℕ → ℕ → List ℤ
numbers clk r en d = pos clk ∷ pos 2 ∷ pos 12 ∷ pos 2 ∷ pos r ∷ pos en ∷ pos d ∷ []

inputs : Bool → List Bool → Bool → Inputs
inputs clk r en = (codes "\\clk", clk ∷ []) ∷ (codes "\\a", two) ∷ (codes "\\w", false ∷ false ∷ true ∷ true ∷ []) ∷ (codes "\\n", false ∷ true ∷ []) ∷ (codes "\\r", r) ∷ (codes "\\e", en ∷ []) ∷ []

-- the first rise takes 15, which the write port puts there; the second, past the depth, 0; the third is not enabled
design_runs : History design (rise ∷ rise ∷ gives 4 (pos 3) ∷ rise ∷ rise ∷ gives 5 (pos 0) ∷ gives 4 (pos 0) ∷ rise ∷ [])
    (numbers 0 2 1 0 ∷ numbers 1 2 1 15 ∷ numbers 0 2 1 15 ∷ numbers 0 3 1 15 ∷ numbers 1 3 1 0 ∷ numbers 0 3 1 0 ∷ numbers 0 3 0 0 ∷ numbers 0 0 0 0 ∷ numbers 1 0 0 0 ∷ [])
unfolding design numbers rise form num
design_runs = (refl, (refl, (refl, (refl, (refl, (refl, (refl, (refl, refl))))))))

module_runs : map seen (rtl_history lowered (inputs false two true)
    (inputs true two true ∷ inputs false two true ∷ inputs false three true ∷ inputs true three true ∷ inputs false three true ∷ inputs false three false ∷ inputs false none false ∷ inputs true none false ∷ []))
    ≡ four false false false false ∷ four true true true true ∷ four true true true true ∷ four true true true true ∷ four false false false false ∷ four false false false false ∷ four false false false false ∷ four false false false false ∷ four false false false false ∷ []
unfolding lowered module_cells inputs seen four two three none wire_bit
module_runs = refl

-- ---- what the laws ask of the wires holds here

moment : ℕ → List Bool → Moment
moment r wires = record {
  design = design;
  env = numbers 0 r 1 0;
  listed = toggles 0 ∷ [];
  rtl = lowered;
  st = first_state lowered;
  old = inputs false wires true;
  new = inputs true wires true;
}

within : CarriesRead (moment 2 two) memory reading read_port
unfolding moment design numbers lowered module_cells inputs two wire_bit form num
within = record { acts = refl; address = refl; enable = refl }

past : CarriesRead (moment 3 three) memory reading read_port
unfolding moment design numbers lowered module_cells inputs two three wire_bit form num
past = record { acts = refl; address = refl; enable = refl }
