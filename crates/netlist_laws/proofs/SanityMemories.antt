-- A memory of three rows with a write port of two granules, a read port at once and one at the clock: what the module has of it.
use Rattle.std.specs.Prelude.{◌≡◌, refl, ℕ, ◌&&◌, true, false, not, List, [], ◌∷◌, map, length, pos, Some, None, codes}
use Rattle.shape_rules.specs.Forms.{unsigned}
use Rattle.design_ir.specs.declared.memory.Memory.{Memory}
use Rattle.design_ir.specs.declared.port.Column.{Column}
use Rattle.design_ir.specs.Values.{form}
use Rattle.design_ir.specs.Circuits.{Circuit}
use Rattle.design_ir.proofs.SanityParts.{signal, e, s, input, output}
use Rattle.new_names.specs.Fresh.{numbered_name}
use Rattle.netlist_laws.specs.Module.{is_read}
use Rattle.netlist_laws.specs.MemoryDrawings.{Placed, row_width, names_rows, memories_of, memory_drawings}

-- clk, the address, word and enable of the write port, the address and the enable of the read ports, and their words

memory : Memory
memory = record {
  name = codes "m";
  shape = unsigned 4;
  depth = 3;
  rows = pos 1 ∷ pos 2 ∷ pos 3 ∷ [];
  writes = record { domain = codes "sync"; addr = e 0; word = e 1; enable = e 2; granularity = 2 } ∷ [];
  reads =
      record { domain = None; addr = e 3; word = record { 0 = 6 }; enable = None; transparent = [] }
      ∷ record { domain = Some (codes "sync"); addr = e 3; word = record { 0 = 7 }; enable = Some (e 4); transparent = 0 ∷ [] } ∷ [];
}

column : List ℕ → ℕ → Column
column name n = record { name = name; sig = record { 0 = n } }

-- one of the columns has the memory's name
design : Circuit
design = record {
  pool = record {
    signals =
        signal (unsigned 1) (pos 0) ∷ signal (unsigned 2) (pos 2) ∷ signal (unsigned 4) (pos 12) ∷ signal (unsigned 2) (pos 2) ∷ signal (unsigned 2) (pos 2) ∷ signal (unsigned 1) (pos 1)
        ∷ signal (unsigned 4) (pos 0) ∷ signal (unsigned 4) (pos 0) ∷ [];
    exprs = s 1 ∷ s 2 ∷ s 3 ∷ s 4 ∷ s 5 ∷ [];
  };
  processes = [];
  memories = memory ∷ [];
  domains = record { name = codes "sync"; clk = record { 0 = 0 }; rst = None; falling = false; async_reset = false } ∷ [];
  ports = input 0 ∷ input 1 ∷ input 2 ∷ input 3 ∷ input 4 ∷ input 5 ∷ output 6 ∷ output 7 ∷ [];
  columns =
      column (codes "clk") 0 ∷ column (codes "a") 1 ∷ column (codes "w") 2 ∷ column (codes "n") 3 ∷ column (codes "r") 4 ∷ column (codes "m") 5 ∷ column (codes "d") 6 ∷ column (codes "q") 7 ∷ [];
}

-- ---- what the module has of it

two_bits : row_width 3 ≡ 2
two_bits = refl

one_row : row_width 1 ≡ 0
one_row = refl

-- the name of the memory is made new
named : map (λ (x : Placed). x.plan.id) (memories_of design) ≡ (92 ∷ numbered_name (codes "m") 1) ∷ []
unfolding design memory column memories_of
named = refl

-- an address of two bits may be past the depth
guarded : names_rows design memory (e 3) ≡ false
unfolding design memory form
guarded = refl

-- its ports give two signals, and each of its four parts draws
given : (is_read design 6 && is_read design 7 && not (is_read design 5)) ≡ true
unfolding design memory
given = refl

drawn : length (memory_drawings design) ≡ 4
unfolding design memory column memories_of memory_drawings
drawn = refl
