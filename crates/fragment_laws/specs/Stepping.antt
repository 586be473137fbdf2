-- What a fragment holds after an event, signal by signal. (Amaranth guide: Clock domains, Memories)
use Rattle.std.specs.Prelude.{◌-ℤ◌, ℕ, suc, ◌==◌, nat_lt, ◌&&◌, Bool, not, if◌then◌else◌, List, [], ◌∷◌, length, slice_get, slice_set, ℤ, pos, Option, fold}
use Rattle.std.specs.List.{list_any}
use Rattle.lists.specs.Texts.{text_eq}
use Rattle.shape_rules.specs.Operators.{is_zero}
use Rattle.design_ir.specs.declared.ids.SigId.{SigId}
use Rattle.design_ir.specs.declared.ids.ExprId.{ExprId}
use Rattle.design_ir.specs.declared.domain.Domain.{Domain}
use Rattle.design_ir.specs.declared.memory.MemWrite.{MemWrite}
use Rattle.design_ir.specs.declared.memory.MemRead.{MemRead}
use Rattle.design_ir.specs.declared.memory.Memory.{Memory}
use Rattle.design_ir.specs.declared.process.Side.{Side}
use Rattle.design_ir.specs.declared.process.Side.TheVariants.{Comb, Clocked}
use Rattle.design_ir.specs.declared.fragment.Fragment.{Fragment}
use Rattle.design_ir.specs.Trees.{Block}
use Rattle.design_ir.specs.Pools.{Pooled}
use Rattle.design_ir.specs.Values.{num}
use Rattle.design_ir.specs.Put.{put}
use Rattle.design_ir.specs.Circuits.{State, option_test, at}
use Rattle.design_ir.specs.Rows.{address, row_at, written}
use Rattle.design_ir.specs.Steps.{is_before_edge}
use Rattle.design_ir.specs.Clearing.{own}
use Rattle.fragment_laws.specs.Parts.{all_memories}
use Rattle.fragment_laws.specs.Surroundings.{Surroundings, domain_of, pool_in}
use Rattle.fragment_laws.specs.Givers.{ReadPort, Giver, statements, port, nobody, giver}
use Rattle.fragment_laws.specs.Settling.{for_each, rows_of}

-- what happens to a fragment from outside
pub data Happening : Type 0 where
  -- a signal from outside takes a number
  given : (signal : ℕ) → ℤ → Happening
  -- the clocks of the domains with these names toggle at once
  toggled : (names : List (List ℕ)) → Happening

-- ---- domains, by their names

-- the domain's clock toggles, and stands before its active edge
abbrev pub acts : List Domain → List ℤ → List (List ℕ) → List ℕ → Bool
acts domains env names name =
    list_any (λ n. text_eq n name) names && option_test (λ (d : Domain). is_before_edge d (at env d.clk.0)) (domain_of domains name)

-- the domain of a port acts
abbrev pub port_acts : List Domain → List ℤ → List (List ℕ) → Option (List ℕ) → Bool
port_acts domains env names domain = option_test (acts domains env names) domain

-- the domain has a reset that is 1
abbrev pub resets : List Domain → List ℤ → List ℕ → Bool
resets domains env name = option_test (λ (d : Domain). option_test (λ (s : SigId). not (is_zero (at env s.0))) d.rst) (domain_of domains name)

-- and it is asynchronous
abbrev pub resets_at_once : List Domain → List ℤ → List ℕ → Bool
resets_at_once domains held name = option_test (λ (d : Domain). d.async_reset) (domain_of domains name) && resets domains held name

-- ---- registers: at an active edge what the statements leave, or the init under a reset

abbrev pub register_number : Pooled → List Domain → State → List ℤ → List (List ℕ) → ℕ → Block → Side → ℤ
register_number q domains st env names s body Comb = at st.held s
register_number q domains st env names s body (Clocked name) =
    let left : ℤ = at (put q env body st.held) s in
    if acts domains env names name then (if resets domains env name then own (slice_get q.signals s) left else left) else at st.held s

-- ---- memories

-- a write port writes its row where its domain acts; past the depth there is none
abbrev pub write_port : Pooled → List Domain → List ℤ → List (List ℕ) → Memory → List ℤ → MemWrite → List ℤ
write_port q domains env names m rows w =
    if acts domains env names w.domain then slice_set rows (address q env w.addr) (written q env m (row_at q env rows w.addr) w) else rows

-- the rows of each memory after its write ports, a later one winning
abbrev pub rows_after : Pooled → List Domain → List ℤ → List (List ℕ) → List Memory → List (List ℤ) → List (List ℤ)
rows_after q domains env names [] rows = rows
rows_after q domains env names (m ∷ ms) [] = []
rows_after q domains env names (m ∷ ms) (rows ∷ more) = fold (write_port q domains env names m) rows m.writes ∷ rows_after q domains env names ms more

-- write port i is one of these, and writes to this row
abbrev pub is_through : Pooled → List Domain → List ℤ → List (List ℕ) → List ℕ → ℕ → ℕ → MemWrite → Bool
is_through q domains env names through addr i w =
    list_any (λ k. k == i) through && (acts domains env names w.domain && (address q env w.addr == addr))

-- a row, with what these of the write ports from i on write there put in, a later one winning
abbrev pub row_through : Pooled → List Domain → List ℤ → List (List ℕ) → Memory → List ℕ → ℕ → ℕ → List MemWrite → ℤ → ℤ
row_through q domains env names m through addr i [] row = row
row_through q domains env names m through addr i (w ∷ ws) row =
    row_through q domains env names m through addr (suc i) ws (if is_through q domains env names through addr i w then written q env m row w else row)

-- what a clocked read port takes: the row as it was, with what its transparent ports write there; past the depth 0
abbrev pub word_of : Pooled → List Domain → List ℤ → List (List ℕ) → Memory → List ℤ → MemRead → ℤ
word_of q domains env names m rows r =
    let addr : ℕ = address q env r.addr in
    if nat_lt addr (length rows) then row_through q domains env names m r.transparent addr 0 m.writes (at rows addr) else pos 0

-- its domain acts, and its enable is 1
abbrev pub reads_now : Pooled → List Domain → List ℤ → List (List ℕ) → MemRead → Bool
reads_now q domains env names r = port_acts domains env names r.domain && option_test (λ (e : ExprId). not (is_zero (num q env e.0))) r.enable

abbrev pub data_number : Pooled → List Domain → State → List ℤ → List (List ℕ) → ℕ → ReadPort → ℤ
data_number q domains st env names s x =
    if reads_now q domains env names x.port then word_of q domains env names x.memory (rows_of st x.number) x.port else at st.held s

-- ---- events

abbrev pub taken_number : Pooled → List Domain → State → List ℤ → List (List ℕ) → ℕ → Giver → ℤ
taken_number q domains st env names s (statements p) = register_number q domains st env names s p.body p.side
taken_number q domains st env names s (port x) = data_number q domains st env names s x
taken_number q domains st env names s nobody = at st.held s

-- a clock of 0 is 1 now, and one of 1 is 0
abbrev pub toggle_by : List Domain → ℕ → ℤ → List ℕ → ℤ
toggle_by domains s n name = if option_test (λ (d : Domain). d.clk.0 == s) (domain_of domains name) then pos 1 -ℤ n else n

-- the number of a signal after clocks toggled, where no asynchronous reset is 1, all read from env, which is the environment
-- before that
abbrev pub edge_number : Pooled → Fragment → List Domain → State → List ℤ → List (List ℕ) → ℕ → ℤ
edge_number q f domains st env names s = fold (toggle_by domains s) (taken_number q domains st env names s (giver q f s)) names

abbrev pub moved : Pooled → Fragment → List Domain → State → List ℤ → Happening → State
moved q f domains st env (given s n) = record st { held = slice_set st.held s n }
moved q f domains st env (toggled names) = record {
  held = for_each q (edge_number q f domains st env names);
  rows = rows_after q domains env names (all_memories f) st.rows;
}

-- a register whose domain has an asynchronous reset that is 1 takes its init
abbrev pub cleared_side : Pooled → List Domain → List ℤ → ℕ → Side → ℤ
cleared_side q domains held s Comb = at held s
cleared_side q domains held s (Clocked name) = if resets_at_once domains held name then own (slice_get q.signals s) (at held s) else at held s

abbrev pub cleared_number : Pooled → List Domain → List ℤ → ℕ → Giver → ℤ
cleared_number q domains held s (statements p) = cleared_side q domains held s p.side
cleared_number q domains held s (port x) = at held s
cleared_number q domains held s nobody = at held s

abbrev pub all_cleared : Pooled → Fragment → List Domain → State → State
all_cleared q f domains st = record st { held = for_each q (λ s. cleared_number q domains st.held s (giver q f s)) }

-- the state after an event: asynchronous resets come last, and their numbers are those after the event
abbrev pub step : Pooled → Fragment → Surroundings → State → List ℤ → Happening → State
step q f w st env e = let p = pool_in w.domains q in all_cleared p f w.domains (moved p f w.domains st env e)
