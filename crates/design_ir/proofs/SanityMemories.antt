-- Memories and loops of small designs.
use Rattle.std.specs.Prelude.{◌≡◌, refl, ℕ, true, List, [], ◌∷◌, ℤ, pos, Some, None, codes}
use Rattle.std.proofs.Common.{arith, inl}
use Rattle.shape_rules.specs.Forms.{unsigned}
use Rattle.design_ir.specs.declared.expr.Expr.TheVariants.{Slice}
use Rattle.design_ir.specs.declared.event.Event.{Event}
use Rattle.design_ir.specs.declared.event.Event.TheVariants.{Edge}
use Rattle.design_ir.specs.declared.memory.MemWrite.{MemWrite}
use Rattle.design_ir.specs.declared.memory.MemRead.{MemRead}
use Rattle.design_ir.specs.Trees.{Block, done, next}
use Rattle.design_ir.specs.Values.{form, num}
use Rattle.design_ir.specs.Targets.{fixed, target_bits, target_signals, aims}
use Rattle.design_ir.specs.Needed.{needed, needed_indices}
use Rattle.design_ir.specs.Loops.{Loop}
use Rattle.design_ir.specs.Circuits.{Circuit, State}
use Rattle.design_ir.specs.Steps.{step}
use Rattle.design_ir.specs.Histories.{History}
use Rattle.design_ir.proofs.SanityParts.{signal, e, s, bit, set, comb, input, domain, falling_domain, gives, toggles}

-- ---- three rows of four bits, two of an enable bit each; two write ports, a transparent and a plain clocked read,
-- ---- and a comb read. Signals: clk, rst, two write addresses, words and enables, the read address, three words

write : ℕ → ℕ → ℕ → MemWrite
write addr word enable = record { domain = codes "sync"; addr = e addr; word = e word; enable = e enable; granularity = 2 }

clocked_port : ℕ → List ℕ → MemRead
clocked_port word through = record { domain = Some (codes "sync"); addr = e 6; word = record { 0 = word }; enable = Some (e 7); transparent = through }

comb_port : ℕ → MemRead
comb_port word = record { domain = None; addr = e 6; word = record { 0 = word }; enable = None; transparent = [] }

rows : Circuit
rows = record {
  pool = record {
    signals =
        signal (unsigned 1) (pos 0) ∷ signal (unsigned 1) (pos 0)
        ∷ signal (unsigned 2) (pos 0) ∷ signal (unsigned 4) (pos 0) ∷ signal (unsigned 2) (pos 0)
        ∷ signal (unsigned 2) (pos 0) ∷ signal (unsigned 4) (pos 0) ∷ signal (unsigned 2) (pos 0)
        ∷ signal (unsigned 2) (pos 0) ∷ signal (unsigned 1) (pos 1)
        ∷ signal (unsigned 4) (pos 0) ∷ signal (unsigned 4) (pos 0) ∷ signal (unsigned 4) (pos 0) ∷ [];
    exprs = s 2 ∷ s 3 ∷ s 4 ∷ s 5 ∷ s 6 ∷ s 7 ∷ s 8 ∷ s 9 ∷ [];
  };
  processes = [];
  memories = record {
    name = codes "rows";
    shape = unsigned 4;
    depth = 3;
    rows = pos 1 ∷ pos 2 ∷ pos 3 ∷ [];
    writes = write 0 1 2 ∷ write 3 4 5 ∷ [];
    reads = clocked_port 10 (0 ∷ 1 ∷ []) ∷ clocked_port 11 [] ∷ comb_port 12 ∷ [];
  } ∷ [];
  domains = domain (codes "sync") 0 1 ∷ [];
  ports = input 0 ∷ input 1 ∷ input 2 ∷ input 3 ∷ input 4 ∷ input 5 ∷ input 6 ∷ input 7 ∷ input 8 ∷ input 9 ∷ [];
  columns = [];
}

edge : Event
edge = Edge (toggles 0 ∷ [])

-- clk; address, word and enable of the first and of the second write port; read address and enable; the words read
row_numbers : ℕ → ℕ → ℕ → ℕ → ℕ → ℕ → ℕ → ℕ → ℕ → ℕ → ℕ → ℕ → List ℤ
row_numbers clk a w n b v k r q x y z =
    pos clk ∷ pos 0 ∷ pos a ∷ pos w ∷ pos n ∷ pos b ∷ pos v ∷ pos k ∷ pos r ∷ pos q ∷ pos x ∷ pos y ∷ pos z ∷ []

state : List ℤ → ℕ → ℕ → ℕ → State
state held a b c = record { held = held; rows = (pos a ∷ pos b ∷ pos c ∷ []) ∷ [] }

-- both ports write row 1, the first all of 1111 and the second the low half of 0000: the later port wins
later_port_wins : step rows (state (row_numbers 0 1 15 3 1 0 1 1 1 0 0 2) 1 2 3) (row_numbers 0 1 15 3 1 0 1 1 1 0 0 2) edge ≡ state (row_numbers 1 1 15 3 1 0 1 1 1 12 2 2) 1 12 3
unfolding rows edge row_numbers state write clocked_port comb_port form num
later_port_wins = refl

-- no row is there past the depth: what is written is dropped, and what is read is 0, through a port too
past_the_depth : step rows (state (row_numbers 0 3 15 3 0 0 0 3 1 7 7 0) 1 2 3) (row_numbers 0 3 15 3 0 0 0 3 1 7 7 0) edge ≡ state (row_numbers 1 3 15 3 0 0 0 3 1 0 0 0) 1 2 3
unfolding rows edge row_numbers state write clocked_port comb_port form num
past_the_depth = refl

-- a write of the low half of row 1: a port that is transparent for it takes the new bits, another the old row
transparent_port_takes_what_is_written : step rows (state (row_numbers 0 1 15 1 0 0 0 1 1 0 0 2) 1 2 3) (row_numbers 0 1 15 1 0 0 0 1 1 0 0 2) edge ≡ state (row_numbers 1 1 15 1 0 0 0 1 1 3 2 2) 1 3 3
unfolding rows edge row_numbers state write clocked_port comb_port form num
transparent_port_takes_what_is_written = refl

-- an enable of 0 keeps the word that was read
kept_word : step rows (state (row_numbers 0 0 0 0 0 0 0 2 0 5 6 3) 1 2 3) (row_numbers 0 0 0 0 0 0 0 2 0 5 6 3) edge ≡ state (row_numbers 1 0 0 0 0 0 0 2 0 5 6 3) 1 2 3
unfolding rows edge row_numbers state write clocked_port comb_port form num
kept_word = refl

-- nothing happens at a fall
fall : step rows (state (row_numbers 1 0 15 3 0 0 0 2 1 5 6 3) 1 2 3) (row_numbers 1 0 15 3 0 0 0 2 1 5 6 3) edge ≡ state (row_numbers 0 0 15 3 0 0 0 2 1 5 6 3) 1 2 3
unfolding rows edge row_numbers state write clocked_port comb_port form num
fall = refl

-- ---- the same memory in a domain with a falling clock and an asynchronous reset

falling_rows : Circuit
falling_rows = record rows { domains = record (falling_domain (codes "sync") 0 1) { async_reset = true } ∷ [] }

-- rows are written and read at the fall
falling_ports_act_at_a_fall : step falling_rows (state (row_numbers 1 1 15 3 1 0 1 1 1 0 0 2) 1 2 3) (row_numbers 1 1 15 3 1 0 1 1 1 0 0 2) edge ≡ state (row_numbers 0 1 15 3 1 0 1 1 1 12 2 2) 1 12 3
unfolding falling_rows rows edge row_numbers state write clocked_port comb_port form num
falling_ports_act_at_a_fall = refl

-- and not at the rise
falling_ports_rest_at_a_rise : step falling_rows (state (row_numbers 0 1 15 3 1 0 1 1 1 5 6 2) 1 2 3) (row_numbers 0 1 15 3 1 0 1 1 1 5 6 2) edge ≡ state (row_numbers 1 1 15 3 1 0 1 1 1 5 6 2) 1 2 3
unfolding falling_rows rows edge row_numbers state write clocked_port comb_port form num
falling_ports_rest_at_a_rise = refl

-- past the depth nothing is written and 0 is read, at a fall too
falling_ports_past_the_depth : step falling_rows (state (row_numbers 1 3 15 3 0 0 0 3 1 7 7 0) 1 2 3) (row_numbers 1 3 15 3 0 0 0 3 1 7 7 0) edge ≡ state (row_numbers 0 3 15 3 0 0 0 3 1 0 0 0) 1 2 3
unfolding falling_rows rows edge row_numbers state write clocked_port comb_port form num
falling_ports_past_the_depth = refl

-- rst at 1; the words of both clocked ports
under_reset : ℕ → ℕ → ℕ → List ℤ
under_reset rst x y = pos 0 ∷ pos rst ∷ pos 0 ∷ pos 0 ∷ pos 0 ∷ pos 0 ∷ pos 0 ∷ pos 0 ∷ pos 2 ∷ pos 1 ∷ pos x ∷ pos y ∷ pos 3 ∷ []

-- no reset touches rows or read data
async_reset_leaves_rows_and_words : step falling_rows (state (under_reset 0 5 6) 9 8 3) (under_reset 0 5 6) (gives 1 (pos 1)) ≡ state (under_reset 1 5 6) 9 8 3
unfolding falling_rows rows under_reset state write clocked_port comb_port form num
async_reset_leaves_rows_and_words = refl

-- read data begins at 0, and a comb read follows its address at once, 0 past the depth
rows_run : History rows (gives 8 (pos 2) ∷ edge ∷ gives 8 (pos 3) ∷ []) (row_numbers 0 0 0 0 0 0 0 0 1 0 0 1 ∷ row_numbers 0 0 0 0 0 0 0 2 1 0 0 3 ∷ row_numbers 1 0 0 0 0 0 0 2 1 3 3 3 ∷ row_numbers 1 0 0 0 0 0 0 3 1 3 3 0 ∷ [])
unfolding rows edge row_numbers write clocked_port comb_port form num
rows_run = (refl, (refl, (refl, refl)))

-- ---- bits that need bits: s[1] = s[0], and s[0] = a or s[0] = s[1]

chain : Block → Circuit
chain body = record {
  pool = record {
    signals = signal (unsigned 1) (pos 0) ∷ signal (unsigned 2) (pos 0) ∷ [];
    exprs = s 0 ∷ s 1 ∷ Slice (e 1) 0 1 ∷ Slice (e 1) 1 1 ∷ [];
  };
  processes = comb body ∷ [];
  memories = [];
  domains = [];
  ports = input 0 ∷ [];
  columns = [];
}

straight : Circuit
straight = chain (next (set 3 2) (next (set 2 0) done))

straight_runs : History straight (gives 0 (pos 1) ∷ []) ((pos 0 ∷ pos 0 ∷ []) ∷ (pos 1 ∷ pos 3 ∷ []) ∷ [])
unfolding straight chain form num target_bits target_signals
straight_runs = (refl, refl)

round : Circuit
round = chain (next (set 3 2) (next (set 2 3) done))

-- bit 1 of s needs bit 0 of s, and that one needs bit 1
round_loops : Loop round (bit 1 1)
unfolding round chain form needed needed_indices aims
round_loops = (
  bit 1 0 ∷ [],
  (
    inl record { process = _; among = (0, omega arith, refl); comb = refl; assignment = _; stands = (0, omega arith, refl); needs = record { aim = record { bit = bit 1 1; spot = fixed 0 }; may = (0, omega arith, refl); writes = refl; reads = (0, omega arith, refl) } },
    inl record { process = _; among = (0, omega arith, refl); comb = refl; assignment = _; stands = (1, omega arith, refl); needs = record { aim = record { bit = bit 1 0; spot = fixed 0 }; may = (0, omega arith, refl); writes = refl; reads = (0, omega arith, refl) } },
  ),
)
