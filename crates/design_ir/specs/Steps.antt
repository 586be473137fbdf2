-- What a design holds after an event. (Amaranth guide: Clock domains, the edge of a clock and an asynchronous reset.)
use Rattle.std.specs.Prelude.{◌-ℤ◌, ℕ, suc, ◌==◌, nat_lt, ◌&&◌, Bool, not, if◌then◌else◌, List, [], ◌∷◌, map, length, slice_get, slice_set, ℤ, pos, Option, Some, None, option_and_then, fold}
use Rattle.std.specs.List.{list_any}
use Rattle.shape_rules.specs.Operators.{is_zero}
use Rattle.design_ir.specs.declared.ids.DomainId.{DomainId}
use Rattle.design_ir.specs.declared.ids.SigId.{SigId}
use Rattle.design_ir.specs.declared.ids.ExprId.{ExprId}
use Rattle.design_ir.specs.declared.signal.Sig.{Sig}
use Rattle.design_ir.specs.declared.domain.Domain.{Domain}
use Rattle.design_ir.specs.declared.memory.MemWrite.{MemWrite}
use Rattle.design_ir.specs.declared.memory.MemRead.{MemRead}
use Rattle.design_ir.specs.declared.memory.Memory.{Memory}
use Rattle.design_ir.specs.declared.process.DesignProcess.{DesignProcess}
use Rattle.design_ir.specs.declared.event.Event.{Event}
use Rattle.design_ir.specs.declared.event.Event.TheVariants.{Set, Edge}
use Rattle.design_ir.specs.Values.{num}
use Rattle.design_ir.specs.Put.{put}
use Rattle.design_ir.specs.Guards.{driven}
use Rattle.design_ir.specs.Circuits.{Circuit, State, option_test, at, domain_named}
use Rattle.design_ir.specs.Rows.{address, row_at, written}

-- ---- domains

-- the number that a clock has before the active edge of its domain: 0, or 1 where the domain is falling
abbrev pub is_before_edge : Domain → ℤ → Bool
is_before_edge x clock = if x.falling then not (is_zero clock) else is_zero clock

-- the domain is listed, and its clock stands before its active edge
abbrev pub is_active : Circuit → List ℤ → List DomainId → ℕ → Bool
is_active c env listed d =
    list_any (λ (x : DomainId). x.0 == d) listed && option_test (λ (x : Domain). is_before_edge x (at env x.clk.0)) (slice_get c.domains d)

-- the domain of a port is active
abbrev pub port_active : Circuit → List ℤ → List DomainId → Option (List ℕ) → Bool
port_active c env listed name = option_test (is_active c env listed) (option_and_then (domain_named c) name)

-- the domain has a reset that is 1
abbrev pub is_reset : Circuit → List ℤ → ℕ → Bool
is_reset c env d =
    option_test (λ (x : Domain). option_test (λ (s : SigId). not (is_zero (at env s.0))) x.rst) (slice_get c.domains d)

-- the domain has an asynchronous reset that is 1
abbrev pub is_cleared : Circuit → List ℤ → ℕ → Bool
is_cleared c held d = option_test (λ (x : Domain). x.async_reset) (slice_get c.domains d) && is_reset c held d

-- ---- registers

abbrev pub reset_to : ℕ → List ℤ → Option Sig → List ℤ
reset_to s cur None = cur
reset_to s cur (Some x) = if x.reset_less then cur else slice_set cur s x.init

-- each of these signals at its init, but those that are reset-less
abbrev pub reset_all : List Sig → List ℤ → List ℕ → List ℤ
reset_all sigs cur [] = cur
reset_all sigs cur (s ∷ ss) = reset_all sigs (reset_to s cur (slice_get sigs s)) ss

-- the registers of a process whose domain is active
abbrev pub clocked_at : Circuit → List ℤ → List DomainId → DesignProcess → List ℤ → Option DomainId → List ℤ
clocked_at c env listed p cur None = cur
clocked_at c env listed p cur (Some d) =
    if is_active c env listed d.0
    then (if is_reset c env d.0 then reset_all c.pool.signals (put c.pool env p.body cur) (driven c.pool p.body) else put c.pool env p.body cur)
    else cur

abbrev pub clocked : Circuit → List ℤ → List DomainId → List ℤ → DesignProcess → List ℤ
clocked c env listed cur p = clocked_at c env listed p cur p.domain

-- the registers of a process whose domain has an asynchronous reset that is 1
abbrev pub cleared_at : Circuit → List ℤ → DesignProcess → List ℤ → Option DomainId → List ℤ
cleared_at c held p cur None = cur
cleared_at c held p cur (Some d) = if is_cleared c held d.0 then reset_all c.pool.signals cur (driven c.pool p.body) else cur

abbrev pub cleared : Circuit → List ℤ → List ℤ → DesignProcess → List ℤ
cleared c held cur p = cleared_at c held p cur p.domain

-- ---- memories

-- a write port writes its row; past the depth there is none
abbrev pub write_row : Circuit → List ℤ → List DomainId → Memory → List ℤ → MemWrite → List ℤ
write_row c env listed m rows w =
    if port_active c env listed (Some w.domain)
    then slice_set rows (address c.pool env w.addr) (written c.pool env m (row_at c.pool env rows w.addr) w)
    else rows

-- the rows of each memory after its write ports, a later one winning
abbrev pub rows_after : Circuit → List ℤ → List DomainId → List Memory → List (List ℤ) → List (List ℤ)
rows_after c env listed [] rows = rows
rows_after c env listed (m ∷ ms) [] = []
rows_after c env listed (m ∷ ms) (rows ∷ more) = fold (write_row c env listed m) rows m.writes ∷ rows_after c env listed ms more

-- write port i is one of these, and writes to this row
abbrev pub writes_through : Circuit → List ℤ → List DomainId → List ℕ → ℕ → ℕ → MemWrite → Bool
writes_through c env listed through addr i w =
    list_any (λ k. k == i) through && (port_active c env listed (Some w.domain) && (address c.pool env w.addr == addr))

-- an old row, with what the transparent ports write there put in, a later one winning
abbrev pub shown_through : Circuit → List ℤ → List DomainId → Memory → List ℕ → ℕ → ℕ → List MemWrite → ℤ → ℤ
shown_through c env listed m through addr i [] row = row
shown_through c env listed m through addr i (w ∷ ws) row =
    shown_through c env listed m through addr (suc i) ws (if writes_through c env listed through addr i w then written c.pool env m row w else row)

-- what a clocked read port takes: nothing is written past the depth, so 0 is read there
abbrev pub read_word : Circuit → List ℤ → List DomainId → Memory → List ℤ → MemRead → ℤ
read_word c env listed m rows r =
    let addr : ℕ = address c.pool env r.addr in
    if nat_lt addr (length rows) then shown_through c env listed m r.transparent addr 0 m.writes (at rows addr) else pos 0

-- the port's domain is active and its enable is 1
abbrev pub reads_now : Circuit → List ℤ → List DomainId → MemRead → Bool
reads_now c env listed r =
    port_active c env listed r.domain && option_test (λ (e : ExprId). not (is_zero (num c.pool env e.0))) r.enable

abbrev pub clocked_read : Circuit → List ℤ → List DomainId → Memory → List ℤ → List ℤ → MemRead → List ℤ
clocked_read c env listed m rows cur r =
    if reads_now c env listed r then slice_set cur r.word.0 (read_word c env listed m rows r) else cur

abbrev pub clocked_reads : Circuit → List ℤ → List DomainId → List Memory → List (List ℤ) → List ℤ → List ℤ
clocked_reads c env listed [] rows cur = cur
clocked_reads c env listed (m ∷ ms) [] cur = cur
clocked_reads c env listed (m ∷ ms) (rows ∷ more) cur = clocked_reads c env listed ms more (fold (clocked_read c env listed m rows) cur m.reads)

-- ---- events

-- a clock of 0 is 1 now, and one of 1 is 0
abbrev pub toggle_at : List ℤ → Option Domain → List ℤ
toggle_at cur None = cur
toggle_at cur (Some x) = slice_set cur x.clk.0 (pos 1 -ℤ at cur x.clk.0)

abbrev pub toggle : List Domain → List ℤ → DomainId → List ℤ
toggle domains cur d = toggle_at cur (slice_get domains d.0)

-- the state after an event where no asynchronous reset is 1, all read from env, which is the environment before it
abbrev pub moved : Circuit → State → List ℤ → Event → State
moved c st env (Set s n) = record st { held = slice_set st.held s.0 n }
moved c st env (Edge listed) = record {
  held = fold (toggle c.domains) (clocked_reads c env listed c.memories st.rows (fold (clocked c env listed) st.held c.processes)) listed;
  rows = rows_after c env listed c.memories st.rows;
}

-- a state in which the asynchronous resets that are 1 in it have taken effect; no reset touches read data or rows
abbrev pub all_cleared : Circuit → State → State
all_cleared c st = record st { held = fold (cleared c st.held) st.held c.processes }

-- the state after an event: asynchronous resets come last, and their numbers are those after the event
abbrev pub step : Circuit → State → List ℤ → Event → State
step c st env e = all_cleared c (moved c st env e)

-- the first state: clocks at 0, each other signal at its init, each row at its first value
abbrev pub clock_low : List ℤ → Domain → List ℤ
clock_low cur d = slice_set cur d.clk.0 (pos 0)

abbrev pub first_state : Circuit → State
first_state c = record {
  held = fold clock_low (map (λ (x : Sig). x.init) c.pool.signals) c.domains;
  rows = map (λ (m : Memory). m.rows) c.memories;
}
