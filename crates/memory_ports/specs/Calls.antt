-- What the calls that make a memory refuse, and what they leave. (Amaranth standard library reference, Memory arrays. `comb`, one
-- domain for all write ports, counts, and which refusal is told: docs/RULES.md.)
use Rattle.std.specs.Prelude.{◌≡◌, ℕ, ◌+◌, ◌-◌, ◌*◌, nat_le, nat_lt, Bool, true, false, not, ◌||◌, ⊤, if◌then◌else◌, List, [], ◌∷◌, ◌++◌, replicate, length, slice_get, ℤ, pos, Option, Some, None, codes}
use Rattle.std.specs.List.{list_any}
use Rattle.lists.specs.Texts.{text_eq}
use Rattle.shape_rules.specs.Forms.{Form}
use Rattle.design_ir.specs.declared.signal.Sig.{Sig}
use Rattle.design_ir.specs.declared.memory.MemWrite.{MemWrite}
use Rattle.design_ir.specs.declared.memory.MemRead.{MemRead}
use Rattle.design_ir.specs.declared.memory.Memory.{Memory}
use Rattle.design_ir.specs.Circuits.{option_test}
use Rattle.design_ir.specs.Pools.{Pooled}
use Rattle.design_ir.specs.declared.refusal.PoolStop.{PoolStop}
use Rattle.design_ir.specs.declared.refusal.PoolStop.TheVariants as pool
use Rattle.memory_ports.specs.declared.ports.WritePort.{WritePort}
use Rattle.memory_ports.specs.declared.ports.ReadPort.{ReadPort}
use Rattle.memory_ports.specs.declared.refusal.MemStop.{MemStop}
use Rattle.memory_ports.specs.declared.refusal.MemStop.TheVariants.{BadDomain, BadGranularity, BadTransparent, TooManyRows, Limit, NoMemory}
use Rattle.memory_ports.specs.Memories.{is_divisor}
use Rattle.memory_ports.specs.Ports.{granule, enable_width, address_signal, data_signal, write_enable, read_enable, is_over, filled}

-- ---- refusals

-- a refusal is the one that is owed; want of memory may come at any time
abbrev pub IsOwed : Option MemStop → MemStop → Type 0
IsOwed owed BadDomain = owed ≡ Some BadDomain
IsOwed owed BadGranularity = owed ≡ Some BadGranularity
IsOwed owed BadTransparent = owed ≡ Some BadTransparent
IsOwed owed TooManyRows = owed ≡ Some TooManyRows
IsOwed owed Limit = owed ≡ Some Limit
IsOwed owed NoMemory = ⊤

-- this refusal where it applies, else what the others say
abbrev pub stop_where : MemStop → Bool → Option MemStop → Option MemStop
stop_where stop applies others = if applies then Some stop else others

-- nothing has changed; where a count was passed or memory ran out, a pool may have grown
abbrev pub Unless : MemStop → Type 0 → Type 0
Unless BadDomain unchanged = unchanged
Unless BadGranularity unchanged = unchanged
Unless BadTransparent unchanged = unchanged
Unless TooManyRows unchanged = unchanged
Unless Limit unchanged = ⊤
Unless NoMemory unchanged = ⊤

-- what holds where a count was passed
abbrev pub WhereLimit : MemStop → Type 0 → Type 0
WhereLimit BadDomain p = ⊤
WhereLimit BadGranularity p = ⊤
WhereLimit BadTransparent p = ⊤
WhereLimit TooManyRows p = ⊤
WhereLimit Limit p = p
WhereLimit NoMemory p = ⊤

-- of the refusals of a pool these two alone come here: a count was passed, or memory ran out
abbrev pub IsCount : PoolStop → Type 0
IsCount pool.Width = ⊥
IsCount pool.BadOperand = ⊥
IsCount pool.Limit = ⊤
IsCount pool.NoMemory = ⊤

abbrev pub told : PoolStop → MemStop
told pool.Width = NoMemory
told pool.BadOperand = NoMemory
told pool.Limit = Limit
told pool.NoMemory = NoMemory

-- ---- a new memory

abbrev pub new_refusal : Form → ℕ → ℕ → Option MemStop
new_refusal shape depth rows =
    stop_where TooManyRows (nat_lt depth rows)
    (stop_where Limit (nat_lt 65536 depth || nat_lt 1048576 (depth * shape.width)) None)

-- the rows that are not given are 0
abbrev pub all_rows : ℕ → List ℤ → List ℤ
all_rows depth rows = rows ++ replicate (depth - length rows) (pos 0)

abbrev pub new_memory : Form → ℕ → List ℤ → Memory
new_memory shape depth rows = record { name = []; shape = shape; depth = depth; rows = all_rows depth rows; writes = []; reads = [] }

-- a memory with 64 ports has no room for another one
abbrev pub is_full : Memory → Bool
is_full m = nat_le 64 (length m.writes + length m.reads)

-- what is left of a pool where a count is passed by a port with these signals
abbrev pub left_behind : Pooled → Memory → List Sig → Pooled
left_behind q m signals = if is_full m then q else filled q signals

-- ---- a write port

-- some earlier write port has another domain
abbrev pub is_elsewhere : List MemWrite → List ℕ → Bool
is_elsewhere writes domain = list_any (λ (w : MemWrite). not (text_eq w.domain domain)) writes

-- what is given has bits and divides the row
abbrev pub is_granule : ℕ → Option ℕ → Bool
is_granule width None = true
is_granule width (Some g) = is_divisor width g

abbrev pub write_signals : Memory → Option ℕ → List Sig
write_signals m granularity =
    address_signal (codes "w") (length m.writes) m.depth
    ∷ data_signal (codes "w") (length m.writes) m.shape
    ∷ write_enable (length m.writes) (enable_width m.shape.width (granule m.shape.width granularity))
    ∷ []

abbrev pub write_refusal : Pooled → Memory → List ℕ → Option ℕ → Option MemStop
write_refusal q m domain granularity =
    stop_where BadDomain (text_eq domain (codes "comb") || is_elsewhere m.writes domain)
    (stop_where BadGranularity (not (is_granule m.shape.width granularity))
    (stop_where Limit (is_full m || is_over q (write_signals m granularity)) None))

-- the signals of the port in the order of their making, and the expressions that are these signals
abbrev pub write_port : Pooled → WritePort
write_port q = record { addr = record { 0 = length q.signals }; word = record { 0 = length q.signals + 1 }; enable = record { 0 = length q.signals + 2 } }

abbrev pub and_write : Pooled → Memory → List ℕ → Option ℕ → Memory
and_write q m domain granularity =
    let port : MemWrite = record {
      domain = domain;
      addr = record { 0 = length q.exprs };
      word = record { 0 = length q.exprs + 1 };
      enable = record { 0 = length q.exprs + 2 };
      granularity = granule m.shape.width granularity;
    } in
    record m { writes = m.writes ++ port ∷ [] }

-- ---- a read port

-- the write port of this number is there, and writes in the read port's domain; a comb port has none
abbrev pub is_transparent : List MemWrite → Option (List ℕ) → ℕ → Bool
is_transparent writes None k = false
is_transparent writes (Some domain) k = option_test (λ (w : MemWrite). text_eq w.domain domain) (slice_get writes k)

abbrev pub enable_signals : ℕ → Option (List ℕ) → List Sig
enable_signals number None = []
enable_signals number (Some domain) = read_enable number ∷ []

abbrev pub read_signals : Memory → Option (List ℕ) → List Sig
read_signals m domain =
    address_signal (codes "r") (length m.reads) m.depth
    ∷ data_signal (codes "r") (length m.reads) m.shape
    ∷ enable_signals (length m.reads) domain

abbrev pub read_refusal : Pooled → Memory → Option (List ℕ) → List ℕ → Option MemStop
read_refusal q m domain transparent =
    stop_where BadTransparent (list_any (λ k. not (is_transparent m.writes domain k)) transparent)
    (stop_where Limit (is_full m || is_over q (read_signals m domain)) None)

-- what a clocked port has, and a comb one has not
abbrev pub where_clocked : {A : Type 0} → Option (List ℕ) → A → Option A
where_clocked None x = None
where_clocked (Some domain) x = Some x

abbrev pub read_port : Pooled → Option (List ℕ) → ReadPort
read_port q domain = record { addr = record { 0 = length q.signals }; word = record { 0 = length q.signals + 1 }; enable = where_clocked domain (record { 0 = length q.signals + 2 }) }

abbrev pub and_read : Pooled → Memory → Option (List ℕ) → List ℕ → Memory
and_read q m domain transparent =
    let port : MemRead = record {
      domain = domain;
      addr = record { 0 = length q.exprs };
      word = record { 0 = length q.signals + 1 };
      enable = where_clocked domain (record { 0 = length q.exprs + 2 });
      transparent = transparent;
    } in
    record m { reads = m.reads ++ port ∷ [] }
