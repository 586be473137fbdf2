-- What a pool, a module with those below it and the ports of the top are to be for them to be resolved. (This project's own rule: what
-- the calls that make them leave.)
use Rattle.std.specs.Prelude.{◌≡◌, ◌⊎◌, ℕ, ◌+◌, ◌<◌, ◌≤◌, nat_eq, Bool, true, false, ⊤, IsTrue, IsSomeAnd, List, [], ◌∷◌, ◌++◌, map, length, slice_get, pos, Option, Some, None}
use Rattle.std.specs.List.{AllByRecursion, IsDistinct, filter, flat_map}
use Rattle.std.specs.Option.{option_map_or}
use Rattle.lists.specs.Names.{IsName}
use Rattle.amh_bits.specs.Patterns.{IsOf}
use Rattle.shape_rules.specs.Forms.{Form, unsigned}
use Rattle.design_ir.specs.declared.ids.ExprId.{ExprId}
use Rattle.design_ir.specs.declared.ids.SigId.{SigId}
use Rattle.design_ir.specs.declared.signal.Sig.{Sig}
use Rattle.design_ir.specs.declared.domain.Domain.{Domain}
use Rattle.design_ir.specs.declared.domain.DomainDef.{DomainDef}
use Rattle.design_ir.specs.declared.memory.MemWrite.{MemWrite}
use Rattle.design_ir.specs.declared.memory.MemRead.{MemRead}
use Rattle.design_ir.specs.declared.memory.Memory.{Memory}
use Rattle.design_ir.specs.declared.port.Port.{Port}
use Rattle.design_ir.specs.declared.process.Side.{Side}
use Rattle.design_ir.specs.declared.process.Side.TheVariants.{Comb, Clocked}
use Rattle.design_ir.specs.declared.process.Process.{Process}
use Rattle.design_ir.specs.declared.fragment.Fragment.{Fragment}
use Rattle.design_ir.specs.Forests.{Leaf, Forest, bare, grown}
use Rattle.design_ir.specs.Fragments.{leaf_of}
use Rattle.design_ir.specs.Pools.{Pooled}
use Rattle.design_ir.specs.Values.{form, signal_form}
use Rattle.design_ir.specs.Targets.{is_target, is_open_target}
use Rattle.design_ir.specs.Guards.{Guarded, guarded, block_exprs}
use Rattle.design_ir.specs.Rows.{granules}
use Rattle.design_ir.specs.Circuits.{is_among}
use Rattle.design_ir.specs.Designs.{IsAddressWidth, IsGranularity, IsTransparent, holds_reset, share}
use Rattle.fragment_walks.specs.Held.{ResetCall, held_resets, leaf_exprs}
use Rattle.fragment_walks.specs.Reads.{data_signals}
use Rattle.fragment_walks.specs.Walks.{all_definitions, all_memories}
use Rattle.clock_domains.specs.declared.top.TopPorts.{TopPorts}
use Rattle.clock_domains.specs.declared.top.TopPorts.TheVariants.{Members, Held, Loose}

-- ---- domains

-- one bit of the pool
pub record IsBit (q : Pooled) (s : SigId) : Type 0 where
  pub there : s.0 < length q.signals
  pub form : signal_form q.signals s.0 ≡ unsigned 1

-- a reset, where there is one, is another bit than the clock
abbrev pub IsResetOf : Pooled → SigId → Option SigId → Type 0
IsResetOf q clk None = ⊤
IsResetOf q clk (Some s) = IsBit q s × (nat_eq clk.0 s.0 ≡ false)

-- a domain of the pool
pub record IsDomainOf (q : Pooled) (d : Domain) : Type 0 where
  pub name : IsName d.name
  pub clock : IsBit q d.clk
  pub reset : IsResetOf q d.clk d.rst

abbrev pub IsDefinition : Pooled → DomainDef → Type 0
IsDefinition q d = IsDomainOf q d.domain

-- the numbers of its signals
abbrev pub domain_numbers : Domain → List ℕ
domain_numbers d = d.clk.0 ∷ option_map_or (λ (s : SigId). s.0 ∷ []) d.rst []

-- two definitions are of one domain but for its name, or have no signal in common: a definition can be renamed, and one domain can be defined
-- under several names
abbrev pub AreApart : DomainDef → DomainDef → Type 0
AreApart d e = (record d.domain { name = e.domain.name } ≡ e.domain) ⊎ (share (domain_numbers d.domain) (domain_numbers e.domain) ≡ false)

-- ---- modules

-- a domain has the name of one
abbrev pub IsNamedSide : Side → Type 0
IsNamedSide Comb = ⊤
IsNamedSide (Clocked n) = IsName n

-- an expression of the pool in which no reset stands
pub record IsPlain (q : Pooled) (e : ExprId) : Type 0 where
  pub there : e.0 < length q.exprs
  pub resolved : holds_reset q e.0 ≡ false

-- the statements of a side once resets are signals
pub record IsSideOf (q : Pooled) (p : Process) : Type 0 where
  pub side : IsNamedSide p.side
  pub expressions : AllByRecursion (IsPlain q) (block_exprs p.body)
  pub targets : AllByRecursion (λ (g : Guarded). IsTrue (is_target q g.target.0)) (guarded [] p.body)

-- ---- modules before that

abbrev pub IsThere : Pooled → ExprId → Type 0
IsThere q e = e.0 < length q.exprs

-- the statements of a side
pub record IsOpenSide (q : Pooled) (p : Process) : Type 0 where
  pub side : IsNamedSide p.side
  pub expressions : AllByRecursion (IsThere q) (block_exprs p.body)
  pub targets : AllByRecursion (λ (g : Guarded). IsTrue (is_open_target q g.target.0)) (guarded [] p.body)

-- ---- memories, which are what a design asks but for their names

-- an expression of the pool of this shape
pub record IsShaped (q : Pooled) (f : Form) (e : ExprId) : Type 0 where
  pub there : e.0 < length q.exprs
  pub shape : form q e.0 ≡ f

-- an unsigned expression that can name every row
pub record IsAddressOf (q : Pooled) (m : Memory) (e : ExprId) : Type 0 where
  pub there : e.0 < length q.exprs
  pub is_unsigned : (form q e.0).signed ≡ false
  pub width : IsAddressWidth m.depth (form q e.0).width

pub record IsWriteOf (q : Pooled) (m : Memory) (w : MemWrite) : Type 0 where
  pub domain : IsName w.domain
  pub addr : IsAddressOf q m w.addr
  pub word : IsShaped q m.shape w.word
  pub granularity : IsGranularity m w.granularity
  pub enable : IsShaped q (unsigned (granules m w)) w.enable

-- a clocked port has an enable, a comb port has none
abbrev pub IsClockingOf : Pooled → Option (List ℕ) → Option ExprId → Type 0
IsClockingOf q None None = ⊤
IsClockingOf q None (Some e) = ⊥
IsClockingOf q (Some d) None = ⊥
IsClockingOf q (Some d) (Some e) = IsName d × IsShaped q (unsigned 1) e

-- a signal of this shape that begins at 0
pub record IsDataOf (q : Pooled) (f : Form) (s : SigId) : Type 0 where
  pub there : s.0 < length q.signals
  pub shape : signal_form q.signals s.0 ≡ f
  pub begins : IsSomeAnd (slice_get q.signals s.0) (λ (x : Sig). x.init ≡ pos 0)

pub record IsReadOf (q : Pooled) (m : Memory) (r : MemRead) : Type 0 where
  pub addr : IsAddressOf q m r.addr
  pub word : IsDataOf q m.shape r.word
  pub clocking : IsClockingOf q r.domain r.enable
  pub transparent : AllByRecursion (IsTransparent m r.domain) r.transparent

pub record IsMemoryOf (q : Pooled) (m : Memory) : Type 0 where
  pub depth : m.depth ≤ 65536
  pub rows : length m.rows ≡ m.depth
  pub row_shapes : AllByRecursion (IsOf m.shape.signed m.shape.width) m.rows
  pub few_ports : length m.writes + length m.reads ≤ 64
  pub writes : AllByRecursion (IsWriteOf q m) m.writes
  pub reads : AllByRecursion (IsReadOf q m) m.reads
  pub one_domain : AllByRecursion (λ (w : MemWrite). AllByRecursion (λ (v : MemWrite). v.domain ≡ w.domain) m.writes) m.writes

-- ---- trees

-- a reset has the name of a domain
abbrev pub IsNamedReset : ResetCall → Type 0
IsNamedReset r = IsName r.domain

pub record IsModule (q : Pooled) (l : Leaf) : Type 0 where
  pub domains : AllByRecursion (IsDefinition q) l.domains
  pub memories : AllByRecursion (IsMemoryOf q) l.memories
  pub processes : AllByRecursion (IsOpenSide q) l.processes
  pub resets : AllByRecursion IsNamedReset (held_resets q (leaf_exprs l))

-- modules one after another, each with a name and with modules below it
abbrev pub AreModules : Pooled → Forest → Type 0
AreModules q bare = ⊤
AreModules q (grown l below rest) = IsName l.name × (IsModule q l × (AreModules q below × AreModules q rest))

-- a module with modules below it
pub record IsTree (q : Pooled) (f : Fragment) : Type 0 where
  pub own : IsModule q (leaf_of f)
  pub below : AreModules q f.submodules

-- ---- ports

-- a signal of the pool, under a name
pub record IsPortOf (q : Pooled) (p : Port) : Type 0 where
  pub there : p.sig.0 < length q.signals
  pub name : IsName p.name

pub record ArePorts (q : Pooled) (ps : List Port) : Type 0 where
  pub each : AllByRecursion (IsPortOf q) ps
  pub distinct : IsDistinct nat_eq (map (λ (p : Port). p.sig.0) ps)

abbrev pub AreTopPorts : Pooled → TopPorts → Type 0
AreTopPorts q (Members ps) = ArePorts q ps
AreTopPorts q (Held ps) = ArePorts q ps
AreTopPorts q Loose = ⊤

-- the inputs among the members of the top
abbrev pub top_inputs : TopPorts → List ℕ
top_inputs (Members ps) = map (λ (p : Port). p.sig.0) (filter (λ (p : Port). p.is_input) ps)
top_inputs (Held ps) = []
top_inputs Loose = []

-- the signals that no read port may give: those of the domains that are defined, and the inputs of the top
abbrev pub outer_signals : Fragment → TopPorts → List ℕ
outer_signals root top = flat_map (λ (d : DomainDef). domain_numbers d.domain) (all_definitions root) ++ top_inputs top

pub record IsResolvable (q : Pooled) (root : Fragment) (top : TopPorts) : Type 0 where
  pub tree : IsTree q root
  pub free_data : AllByRecursion (λ s. is_among (outer_signals root top) s ≡ false) (data_signals (all_memories root))
  pub apart : AllByRecursion (λ (d : DomainDef). AllByRecursion (AreApart d) (all_definitions root)) (all_definitions root)
  pub names : AllByRecursion (λ (x : Sig). IsName x.name) q.signals
  pub ports : AreTopPorts q top
