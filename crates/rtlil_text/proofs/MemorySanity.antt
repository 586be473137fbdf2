-- A memory of three rows with two writes and two reads: it keeps the rules, and its bits are worked out by hand.
use Rattle.std.proofs.Common.{◌≡◌, ◌∙◌, refl, sym, ℕ, zero, suc, ◌≤◌, Bool, true, false, List, [], ◌∷◌, map, codes, All, inr, arith}
use Rattle.std.specs.Prelude.{Option, Some, None, Contains, slice_get, MatchOption}
use Rattle.rtlil_text.specs.Numerals.{numeral}
use Rattle.std.proofs.lemmas.List.Elements.{All-from_recursion, All-nil}
use Rattle.shape_rules.specs.declared.cell.CellKind.TheVariants.{MemoryRead, MemoryWrite, MemoryInit}
use Rattle.rtlil_text.specs.declared.sig.SigPart.{SigPart}
use Rattle.rtlil_text.specs.declared.cell.RtlValue.TheVariants as values
use Rattle.rtlil_text.specs.declared.cell.RtlParameter.{RtlParameter}
use Rattle.rtlil_text.specs.declared.cell.RtlEnd.{RtlEnd}
use Rattle.rtlil_text.specs.declared.cell.RtlCell.{RtlCell}
use Rattle.rtlil_text.specs.declared.module.WirePort.{WirePort}
use Rattle.rtlil_text.specs.declared.module.WirePort.TheVariants.{Input, Output}
use Rattle.rtlil_text.specs.declared.module.RtlWire.{RtlWire}
use Rattle.rtlil_text.specs.declared.module.RtlMemory.{RtlMemory}
use Rattle.rtlil_text.specs.declared.module.RtlModule.{RtlModule}
use Rattle.rtlil_text.specs.Ids.{IsId}
use Rattle.rtlil_text.specs.Sources.{end_bits, end_width, number_at, memory_id}
use Rattle.rtlil_text.specs.Meaning.{Inputs}
use Rattle.rtlil_text.specs.History.{Wires, rtl_history, wire_bit}
use Rattle.rtlil_text.specs.MemoryRules.{HaveOneClock, FitsMemory, FitsRead, FitsWrite, FitsInit, MemoryFits, IsConstant}
use Rattle.rtlil_text.specs.Rules.{IsModule, ValueFits, SpecFits, PartFits, WireFits, CellFits, LinkFits, module_ids}
use Rattle.rtlil_text.proofs.Builders.{wire, whole, bits, number, mask, to}
use Rattle.rtlil_text.proofs.Distinct.{AreDistinct-are_distinct}
use Rattle.rtlil_text.proofs.GateSanity.{public, public_letter}

-- \m of three rows of two bits
abbrev memory : RtlMemory
memory = record { id = codes "\\m"; width = 2; size = 3 }

abbrev memory_name : RtlParameter
memory_name = record { name = codes "\\MEMID"; value = values.Id (codes "\\m") }

-- two bits, the highest first
abbrev two : Bool → Bool → List Bool
two high low = low ∷ high ∷ []

abbrev read : List ℕ → (clocked : ℕ) → List Bool → (clk en row : List SigPart) → RtlCell
read id clocked transparent clk en row = record {
  kind = MemoryRead;
  id = id;
  parameters = memory_name ∷ number (codes "\\ABITS") 2 ∷ number (codes "\\WIDTH") 2 ∷ number (codes "\\CLK_ENABLE") clocked ∷ number (codes "\\CLK_POLARITY") 1
      ∷ mask (codes "\\TRANSPARENCY_MASK") transparent ∷ mask (codes "\\COLLISION_X_MASK") (two false false) ∷ mask (codes "\\ARST_VALUE") (two false false) ∷ mask (codes "\\SRST_VALUE") (two false false) ∷ mask (codes "\\INIT_VALUE") (two false false) ∷ number (codes "\\CE_OVER_SRST") 0 ∷ [];
  ends = to (codes "\\CLK") clk ∷ to (codes "\\EN") en ∷ to (codes "\\ARST") (bits (false ∷ [])) ∷ to (codes "\\SRST") (bits (false ∷ [])) ∷ to (codes "\\ADDR") (whole (codes "\\r") 2) ∷ to (codes "\\DATA") row ∷ [];
}

abbrev write : List ℕ → (port : ℕ) → List Bool → (en row : List SigPart) → RtlCell
write id port before en row = record {
  kind = MemoryWrite;
  id = id;
  parameters = memory_name ∷ number (codes "\\ABITS") 2 ∷ number (codes "\\WIDTH") 2 ∷ number (codes "\\CLK_ENABLE") 1 ∷ number (codes "\\CLK_POLARITY") 1 ∷ number (codes "\\PORTID") port ∷ mask (codes "\\PRIORITY_MASK") before ∷ [];
  ends = to (codes "\\CLK") (whole (codes "\\c") 1) ∷ to (codes "\\EN") en ∷ to (codes "\\ADDR") (whole (codes "\\a") 2) ∷ to (codes "\\DATA") row ∷ [];
}

-- the rows are 01, 10 and 11
abbrev first_rows : RtlCell
first_rows = record {
  kind = MemoryInit;
  id = codes "$5";
  parameters = memory_name ∷ number (codes "\\ABITS") 2 ∷ number (codes "\\WIDTH") 2 ∷ number (codes "\\WORDS") 3 ∷ number (codes "\\PRIORITY") 0 ∷ [];
  ends = to (codes "\\ADDR") (bits (two false false)) ∷ to (codes "\\DATA") (bits (true ∷ false ∷ false ∷ true ∷ true ∷ true ∷ [])) ∷ to (codes "\\EN") (bits (two true true)) ∷ [];
}

abbrev clocked_read : List Bool → RtlCell
clocked_read transparent = read (codes "$1") 1 transparent (whole (codes "\\c") 1) (whole (codes "\\n") 1) (whole (codes "\\q") 2)

abbrev comb_read : RtlCell
comb_read = read (codes "$2") 0 (two false false) (bits (false ∷ [])) (bits (true ∷ [])) (whole (codes "\\p") 2)

-- the first write puts \d where \e is 1, the second one 00 where \f is 1
abbrev first_write : RtlCell
first_write = write (codes "$3") 0 (two false false) (whole (codes "\\e") 2) (whole (codes "\\d") 2)

abbrev second_write : RtlCell
second_write = write (codes "$4") 1 (two false true) (whole (codes "\\f") 2) (bits (two false false))

abbrev ram_wires : List RtlWire
ram_wires = wire (codes "\\c") 1 (Input 1) ∷ wire (codes "\\a") 2 (Input 2) ∷ wire (codes "\\d") 2 (Input 3) ∷ wire (codes "\\e") 2 (Input 4) ∷ wire (codes "\\f") 2 (Input 5) ∷ wire (codes "\\r") 2 (Input 6) ∷ wire (codes "\\n") 1 (Input 7) ∷ wire (codes "\\q") 2 (Output 8) ∷ wire (codes "\\p") 2 (Output 9) ∷ []

ram : List Bool → RtlModule
ram transparent = record {
  wires = ram_wires;
  memories = memory ∷ [];
  cells = clocked_read transparent ∷ comb_read ∷ first_write ∷ second_write ∷ first_rows ∷ [];
  links = [];
}

-- clock, address, data, enables of both writes, address and enable of the read
at : (c : Bool) (a d e f r : List Bool) (n : Bool) → Inputs
at c a d e f r n = (codes "\\c", c ∷ []) ∷ (codes "\\a", a) ∷ (codes "\\d", d) ∷ (codes "\\e", e) ∷ (codes "\\f", f) ∷ (codes "\\r", r) ∷ (codes "\\n", n ∷ []) ∷ []

abbrev seen : Wires → List (Option Bool)
seen wires = wires (codes "\\q") 1 ∷ wires (codes "\\q") 0 ∷ wires (codes "\\p") 1 ∷ wires (codes "\\p") 0 ∷ []

abbrev known : Bool → Bool → Bool → Bool → List (Option Bool)
known a b c d = Some a ∷ Some b ∷ Some c ∷ Some d ∷ []

row_0 : List Bool
row_0 = two false false

row_1 : List Bool
row_1 = two false true

row_3 : List Bool
row_3 = two true true

-- q and p: the reset value and row 0; then row 1; then 01 is written to row 1, of which the second write takes the lower bit
-- away, so that 00 stands there; q has row 1 with what both writes put into it
transparent_to_both : map seen (rtl_history (ram (two true true)) (at false row_0 row_0 row_0 row_0 row_0 true) (at false row_1 row_1 (two true true) (two false true) row_1 true ∷ at true row_1 row_1 (two true true) (two false true) row_1 true ∷ []))
    ≡ known false false false true ∷ known false false true false ∷ known false false false false ∷ []
unfolding ram at row_0 row_1 row_3 wire_bit
transparent_to_both = refl

-- q has row 1 with what the first write alone puts into it
transparent_to_the_first : map seen (rtl_history (ram (two false true)) (at false row_0 row_0 row_0 row_0 row_0 true) (at false row_1 row_1 (two true true) (two false true) row_1 true ∷ at true row_1 row_1 (two true true) (two false true) row_1 true ∷ []))
    ≡ known false false false true ∷ known false false true false ∷ known false true false false ∷ []
unfolding ram at row_0 row_1 row_3 wire_bit
transparent_to_the_first = refl

-- q has the old row 1
transparent_to_none : map seen (rtl_history (ram (two false false)) (at false row_0 row_0 row_0 row_0 row_0 true) (at false row_1 row_1 (two true true) (two false true) row_1 true ∷ at true row_1 row_1 (two true true) (two false true) row_1 true ∷ []))
    ≡ known false false false true ∷ known false false true false ∷ known true false false false ∷ []
unfolding ram at row_0 row_1 row_3 wire_bit
transparent_to_none = refl

-- a read that is not enabled keeps what it has
not_enabled : map seen (rtl_history (ram (two false false)) (at false row_0 row_0 row_0 row_0 row_1 false) (at true row_0 row_0 row_0 row_0 row_1 false ∷ [])) ≡ known false false true false ∷ known false false true false ∷ []
unfolding ram at row_0 row_1 row_3 wire_bit
not_enabled = refl

-- past the size a write is dropped, and a read has no value
past_the_size : map seen (rtl_history (ram (two true true)) (at false row_3 row_1 (two true true) row_0 row_3 true) (at true row_3 row_1 (two true true) row_0 row_0 true ∷ at false row_0 row_0 row_0 row_0 row_3 true ∷ []))
    ≡ (Some false ∷ Some false ∷ None ∷ None ∷ []) ∷ (None ∷ None ∷ Some false ∷ Some true ∷ []) ∷ (None ∷ None ∷ None ∷ None ∷ []) ∷ []
unfolding ram at row_0 row_1 row_3 wire_bit
past_the_size = refl

-- ---- the module keeps the rules

ram_of : RtlModule
ram_of = ram (two true true)

ram_ids : All IsId (module_ids ram_of)
unfolding ram_of ram numeral
ram_ids = All-from_recursion IsId (module_ids ram_of)
    (public 99 refl, (public 97 refl, (public 100 refl, (public 101 refl, (public 102 refl, (public 114 refl, (public 110 refl, (public 113 refl, (public 112 refl, (public 109 refl, (inr (1, refl), (inr (2, refl), (inr (3, refl), (inr (4, refl), (inr (5, refl), tt)))))))))))))))

all_of : (wires : List RtlWire) (w : RtlWire) → Contains wires w → 1 ≤ w.width → SpecFits wires (whole w.id w.width)
all_of wires w h e = All-from_recursion (PartFits wires) (whole w.id w.width) (record { wire = w; among = h; named = refl; some = e; within = omega arith }, tt)

some_bits : (bs : List Bool) → SpecFits ram_wires (bits bs)
some_bits bs = All-from_recursion (PartFits ram_wires) (bits bs) (tt, tt)

c_fits : SpecFits ram_wires (whole (codes "\\c") 1)
c_fits = all_of ram_wires (wire (codes "\\c") 1 (Input 1)) (0, omega arith, refl) (omega arith)

a_fits : SpecFits ram_wires (whole (codes "\\a") 2)
a_fits = all_of ram_wires (wire (codes "\\a") 2 (Input 2)) (1, omega arith, refl) (omega arith)

d_fits : SpecFits ram_wires (whole (codes "\\d") 2)
d_fits = all_of ram_wires (wire (codes "\\d") 2 (Input 3)) (2, omega arith, refl) (omega arith)

e_fits : SpecFits ram_wires (whole (codes "\\e") 2)
e_fits = all_of ram_wires (wire (codes "\\e") 2 (Input 4)) (3, omega arith, refl) (omega arith)

f_fits : SpecFits ram_wires (whole (codes "\\f") 2)
f_fits = all_of ram_wires (wire (codes "\\f") 2 (Input 5)) (4, omega arith, refl) (omega arith)

r_fits : SpecFits ram_wires (whole (codes "\\r") 2)
r_fits = all_of ram_wires (wire (codes "\\r") 2 (Input 6)) (5, omega arith, refl) (omega arith)

n_fits : SpecFits ram_wires (whole (codes "\\n") 1)
n_fits = all_of ram_wires (wire (codes "\\n") 1 (Input 7)) (6, omega arith, refl) (omega arith)

q_fits : SpecFits ram_wires (whole (codes "\\q") 2)
q_fits = all_of ram_wires (wire (codes "\\q") 2 (Output 8)) (7, omega arith, refl) (omega arith)

p_fits : SpecFits ram_wires (whole (codes "\\p") 2)
p_fits = all_of ram_wires (wire (codes "\\p") 2 (Output 9)) (8, omega arith, refl) (omega arith)

ends_fit : RtlCell → Type 0
ends_fit c = All (λ (e : RtlEnd). SpecFits ram_wires e.spec) c.ends

clocked_read_ends : ends_fit (clocked_read (two true true))
unfolding ends_fit
clocked_read_ends = All-from_recursion (λ (e : RtlEnd). SpecFits ram_wires e.spec) (clocked_read (two true true)).ends (c_fits, (n_fits, (some_bits (false ∷ []), (some_bits (false ∷ []), (r_fits, (q_fits, tt))))))

comb_read_ends : ends_fit comb_read
unfolding ends_fit
comb_read_ends = All-from_recursion (λ (e : RtlEnd). SpecFits ram_wires e.spec) comb_read.ends (some_bits (false ∷ []), (some_bits (true ∷ []), (some_bits (false ∷ []), (some_bits (false ∷ []), (r_fits, (p_fits, tt))))))

first_write_ends : ends_fit first_write
unfolding ends_fit
first_write_ends = All-from_recursion (λ (e : RtlEnd). SpecFits ram_wires e.spec) first_write.ends (c_fits, (e_fits, (a_fits, (d_fits, tt))))

second_write_ends : ends_fit second_write
unfolding ends_fit
second_write_ends = All-from_recursion (λ (e : RtlEnd). SpecFits ram_wires e.spec) second_write.ends (c_fits, (f_fits, (a_fits, (some_bits (two false false), tt))))

first_rows_ends : ends_fit first_rows
unfolding ends_fit
first_rows_ends = All-from_recursion (λ (e : RtlEnd). SpecFits ram_wires e.spec) first_rows.ends (some_bits (two false false), (some_bits (true ∷ false ∷ false ∷ true ∷ true ∷ true ∷ []), (some_bits (two true true), tt)))

both_clocks : (k : ℕ) → slice_get (two true true) k ≡ Some true → MatchOption (slice_get (first_write ∷ second_write ∷ []) k) ⊥ (HaveOneClock (clocked_read (two true true)))
both_clocks zero e = record { clocked = refl; clock = refl; edge = refl }
both_clocks (suc zero) e = record { clocked = refl; clock = refl; edge = refl }
both_clocks (suc (suc k)) e = absurd (none_some e)
  where
    none_some : ◌≡◌ {A = Option Bool} None (Some true) → ⊥
    none_some e = cc

no_clock : (k : ℕ) → slice_get (two false false) k ≡ Some true → MatchOption (slice_get (first_write ∷ second_write ∷ []) k) ⊥ (HaveOneClock comb_read)
no_clock zero e = cc
no_clock (suc zero) e = cc
no_clock (suc (suc k)) e = cc

of_ram : (c : RtlCell) → memory_id c ≡ codes "\\m" → number_at c (codes "\\WIDTH") ≡ 2 → number_at c (codes "\\ABITS") ≡ 2 → end_width c (codes "\\ADDR") ≡ 2 → FitsMemory ram_of c memory
unfolding ram_of ram
of_ram c m w a e = record { among = (0, omega arith, refl); named = m; width = w; address = a ∙ sym e; wide = omega (arith, a) }

clocked_read_fits : FitsRead ram_of (clocked_read (two true true))
unfolding ram_of ram
clocked_read_fits = record {
  memory = memory;
  of_memory = of_ram (clocked_read (two true true)) refl refl refl refl;
  row = refl;
  clocked = omega arith;
  edge = omega arith;
  clock = refl;
  enable = refl;
  comb = λ e. cc;
  transparency = refl;
  transparent = both_clocks;
  collision = refl;
  first = refl;
  no_reset = refl;
  no_clocked_reset = refl;
  reset_value = refl;
  clocked_reset_value = refl;
  enable_first = refl;
}

comb_read_fits : FitsRead ram_of comb_read
unfolding ram_of ram
comb_read_fits = record {
  memory = memory;
  of_memory = of_ram comb_read refl refl refl refl;
  row = refl;
  clocked = omega arith;
  edge = omega arith;
  clock = refl;
  enable = refl;
  comb = λ e. record { clock = refl; enable = refl };
  transparency = refl;
  transparent = no_clock;
  collision = refl;
  first = refl;
  no_reset = refl;
  no_clocked_reset = refl;
  reset_value = refl;
  clocked_reset_value = refl;
  enable_first = refl;
}

write_fits : (id : List ℕ) (port : ℕ) (before : List Bool) (en row : List SigPart) → end_width (write id port before en row) (codes "\\DATA") ≡ 2 → end_width (write id port before en row) (codes "\\EN") ≡ 2 → FitsWrite ram_of (write id port before en row)
unfolding ram_of ram
write_fits id port before en row d e = record {
  memory = memory;
  of_memory = of_ram (write id port before en row) refl refl refl refl;
  row = sym d;
  enable = sym e;
  clocked = refl;
  edge = omega arith;
  clock = refl;
}

first_rows_fit : FitsInit ram_of first_rows
unfolding ram_of ram
first_rows_fit = record {
  memory = memory;
  of_memory = of_ram first_rows refl refl refl refl;
  words = refl;
  rows = refl;
  constant = All-from_recursion IsConstant (end_bits first_rows (codes "\\DATA")) (tt, (tt, (tt, (tt, (tt, (tt, tt))))));
  enable = refl;
  from_zero = refl;
  only = refl;
}

clocked_read_values : All (λ (p : RtlParameter). ValueFits p.value) (clocked_read (two true true)).parameters
clocked_read_values = All-from_recursion (λ (p : RtlParameter). ValueFits p.value) (clocked_read (two true true)).parameters (public_letter 109 refl, (tt, (tt, (tt, (tt, (tt, (tt, (tt, (tt, (tt, (tt, tt)))))))))))

comb_read_values : All (λ (p : RtlParameter). ValueFits p.value) comb_read.parameters
comb_read_values = All-from_recursion (λ (p : RtlParameter). ValueFits p.value) comb_read.parameters (public_letter 109 refl, (tt, (tt, (tt, (tt, (tt, (tt, (tt, (tt, (tt, (tt, tt)))))))))))

first_write_values : All (λ (p : RtlParameter). ValueFits p.value) first_write.parameters
first_write_values = All-from_recursion (λ (p : RtlParameter). ValueFits p.value) first_write.parameters (public_letter 109 refl, (tt, (tt, (tt, (tt, (tt, (tt, tt)))))))

second_write_values : All (λ (p : RtlParameter). ValueFits p.value) second_write.parameters
second_write_values = All-from_recursion (λ (p : RtlParameter). ValueFits p.value) second_write.parameters (public_letter 109 refl, (tt, (tt, (tt, (tt, (tt, (tt, tt)))))))

first_rows_values : All (λ (p : RtlParameter). ValueFits p.value) first_rows.parameters
first_rows_values = All-from_recursion (λ (p : RtlParameter). ValueFits p.value) first_rows.parameters (public_letter 109 refl, (tt, (tt, (tt, (tt, tt)))))

ram_cells : All (CellFits ram_of) ram_of.cells
unfolding ram_of ram ends_fit
ram_cells = All-from_recursion (CellFits ram_of) ram_of.cells (
  record { parameters = refl; values = clocked_read_values; ends = refl; specs = clocked_read_ends; rules = clocked_read_fits },
  (
    record { parameters = refl; values = comb_read_values; ends = refl; specs = comb_read_ends; rules = comb_read_fits },
    (
      record { parameters = refl; values = first_write_values; ends = refl; specs = first_write_ends; rules = write_fits _ _ _ _ _ refl refl },
      (
        record { parameters = refl; values = second_write_values; ends = refl; specs = second_write_ends; rules = write_fits _ _ _ _ _ refl refl },
        (record { parameters = refl; values = first_rows_values; ends = refl; specs = first_rows_ends; rules = first_rows_fit }, tt),
      ),
    ),
  ),
)

a_wire : {id : List ℕ} {k : ℕ} {port : WirePort} → WireFits (wire id (suc k) port)
a_wire = record { wide = omega arith; init = tt }

IsModule-ram : IsModule ram_of
unfolding ram_of ram
IsModule-ram = record {
  distinct = AreDistinct-are_distinct (module_ids ram_of) refl;
  ids = ram_ids;
  wires = All-from_recursion WireFits ram_wires (a_wire, (a_wire, (a_wire, (a_wire, (a_wire, (a_wire, (a_wire, (a_wire, (a_wire, tt)))))))));
  memories = All-from_recursion (MemoryFits ram_of) (memory ∷ []) (record { width = omega arith; size = omega arith; first = refl; writes = (refl, refl, (refl, refl, tt)) }, tt);
  cells = ram_cells;
  links = All-nil (LinkFits ram_of);
  ports = refl;
  drivers = record { moves = []; below = tt; is = refl };
}
