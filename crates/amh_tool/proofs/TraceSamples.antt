-- The text of traces at literal boards and numbers.
use Rattle.std.specs.Prelude.{◌≡◌, refl, ℕ, true, false, List, [], ◌∷◌, codes, ℤ, pos, negsuc, None}
use Rattle.std.specs.Fmt.{digits}
use Rattle.shape_rules.specs.Forms.{Form}
use Rattle.design_ir.specs.declared.event.Event.{Event}
use Rattle.design_ir.specs.declared.event.Event.TheVariants.{Set, Edge}
use Rattle.play_text.specs.declared.board.Shown.{Shown}
use Rattle.play_text.specs.declared.board.Board.{Board}
use Rattle.play_text.specs.Trace.{Done, Asserts, Raises, PassesWidth, PassesLimit, Spends, timed, head_line, column_line, shape_text, field, event_text, first_line, row_line, done_line, stop_line, spent_line, end_line, trace_text}

set : ℕ → ℕ → Event
set s n = Set (record { 0 = s }) (pos n)

tick : Event
tick = Edge (record { 0 = 0 } ∷ [])

column : List ℕ → ℕ → Form → Shown
column name s shape = record { name = name; sig = record { 0 = s }; shape = shape; is_settable = false }

bit : List ℕ → ℕ → Shown
bit name s = column name s (record { width = 1; signed = false })

-- the numbers of three signals
three : ℕ → ℕ → ℕ → List ℤ
three a b y = pos a ∷ pos b ∷ pos y ∷ []

-- ---- an AND gate: a and b rise, and then fall

conjoined : Board
conjoined = record { columns = bit (codes "a") 0 ∷ bit (codes "b") 1 ∷ bit (codes "y") 2 ∷ []; domains = [] }

trace-conjoined : trace_text conjoined (timed 1 (set 0 1 ∷ set 1 1 ∷ set 0 0 ∷ set 1 0 ∷ [])) (three 0 0 0 ∷ three 1 0 0 ∷ three 1 1 1 ∷ three 0 1 0 ∷ three 0 0 0 ∷ []) Done
    ≡ codes "amh-trace 1\ncol a u1\ncol b u1\ncol y u1\n0 init | a=0 b=0 y=0\n1 set a 1 | a=1\n2 set b 1 | b=1 y=1\n3 set a 0 | a=0 y=0\n4 set b 0 | b=0\nend done\n"
unfolding conjoined bit column three set head_line column_line shape_text field event_text first_line row_line done_line trace_text digits
trace-conjoined = refl

-- ---- a register that takes its inverse where the clock rises, and 0 where the reset is 1

inverting : Board
inverting = record {
  columns = bit (codes "clk") 0 ∷ bit (codes "rst") 1 ∷ bit (codes "q") 2 ∷ [];
  domains = record { name = codes "sync"; clk = record { 0 = 0 }; rst = None; falling = false; async_reset = false } ∷ [];
}

trace-inverting : trace_text inverting (timed 1 (tick ∷ tick ∷ set 1 1 ∷ tick ∷ tick ∷ tick ∷ [])) (three 0 0 0 ∷ three 1 0 1 ∷ three 0 0 1 ∷ three 0 1 1 ∷ three 1 1 0 ∷ three 0 1 0 ∷ three 1 1 0 ∷ []) Done
    ≡ codes "amh-trace 1\ncol clk u1\ncol rst u1\ncol q u1\n0 init | clk=0 rst=0 q=0\n1 edge sync+ | clk=1 q=1\n2 edge sync- | clk=0\n3 set rst 1 | rst=1\n4 edge sync+ | clk=1 q=0\n5 edge sync- | clk=0\n6 edge sync+ | clk=1\nend done\n"
unfolding inverting bit column three set tick head_line column_line shape_text field event_text first_line row_line done_line trace_text digits
trace-inverting = refl

-- ---- signed numbers: y is a - b

difference : Board
difference = record {
  columns = column (codes "a") 0 (record { width = 4; signed = true }) ∷ column (codes "b") 1 (record { width = 4; signed = false }) ∷ column (codes "y") 2 (record { width = 6; signed = true }) ∷ [];
  domains = [];
}

trace-signed : trace_text difference (timed 1 (Set (record { 0 = 0 }) (negsuc 7) ∷ set 1 15 ∷ [])) ((pos 0 ∷ pos 0 ∷ pos 0 ∷ []) ∷ (negsuc 7 ∷ pos 0 ∷ negsuc 7 ∷ []) ∷ (negsuc 7 ∷ pos 15 ∷ negsuc 22 ∷ []) ∷ []) Done
    ≡ codes "amh-trace 1\ncol a s4\ncol b u4\ncol y s6\n0 init | a=0 b=0 y=0\n1 set a -8 | a=-8 y=-8\n2 set b 15 | b=15 y=-23\nend done\n"
unfolding difference column set head_line column_line shape_text field event_text first_line row_line done_line trace_text digits
trace-signed = refl

-- ---- two clocks: one falls as the other rises

clocks : Board
clocks = record {
  columns = column (codes "clk") 0 (record { width = 1; signed = false }) ∷ column (codes "fast_clk") 1 (record { width = 1; signed = false }) ∷ [];
  domains = record { name = codes "sync"; clk = record { 0 = 0 }; rst = None; falling = false; async_reset = false } ∷ record { name = codes "fast"; clk = record { 0 = 1 }; rst = None; falling = false; async_reset = false } ∷ [];
}

row-edges : row_line clocks (record { time = 1000000000; event = Edge (record { 0 = 0 } ∷ record { 0 = 1 } ∷ []) }) (pos 1 ∷ pos 0 ∷ []) (pos 0 ∷ pos 1 ∷ [])
    ≡ codes "1000000000 edge sync- fast+ | clk=0 fast_clk=1\n"
unfolding clocks column field event_text row_line digits
row-edges = refl

-- ---- how a run ends

ends : (end_line (Asserts (record { line = 9; col = 9 })) ≡ codes "end assert 9:9\n") × (end_line (Raises (record { line = 12; col = 5 })) ≡ codes "end raised 12:5\n") × (end_line (PassesWidth (record { line = 1; col = 10 })) ≡ codes "end width 1:10\n") × (end_line (PassesLimit (record { line = 1; col = 1 })) ≡ codes "end limit 1:1\n") × (end_line Spends ≡ codes "end spent\n")
unfolding stop_line spent_line digits
ends = (refl, refl, refl, refl, refl)
