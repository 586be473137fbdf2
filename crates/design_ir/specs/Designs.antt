-- What a pool and a design keep to.
use Rattle.std.specs.Prelude.{◌≡◌, ℕ, ◌+◌, ◌*◌, ◌^◌, ◌<◌, ◌≤◌, ◌==◌, ◌⊎◌, Bool, true, false, IsTrue, IsSome, IsSomeAnd, ⊤, nat_eq, List, [], ◌∷◌, ◌++◌, map, length, slice_get, pos, Option, Some, None, option_map}
use Rattle.std.specs.List.{flat_map, filter_map, list_any, AllByRecursion, IsDistinct}
use Rattle.lists.specs.Names.{IsPath, IsPublicName}
use Rattle.lists.specs.Texts.{text_eq}
use Rattle.amh_bits.specs.Patterns.{IsOf}
use Rattle.shape_rules.specs.Forms.{Form, unsigned}
use Rattle.design_ir.specs.declared.ids.ExprId.{ExprId}
use Rattle.design_ir.specs.declared.ids.SigId.{SigId}
use Rattle.design_ir.specs.declared.ids.DomainId.{DomainId}
use Rattle.design_ir.specs.declared.signal.Sig.{Sig}
use Rattle.design_ir.specs.declared.expr.Expr.{Expr}
use Rattle.design_ir.specs.declared.expr.Expr.TheVariants.{Reset}
use Rattle.design_ir.specs.declared.domain.Domain.{Domain}
use Rattle.design_ir.specs.declared.memory.MemWrite.{MemWrite}
use Rattle.design_ir.specs.declared.memory.MemRead.{MemRead}
use Rattle.design_ir.specs.declared.memory.Memory.{Memory}
use Rattle.design_ir.specs.declared.port.Port.{Port}
use Rattle.design_ir.specs.declared.port.Column.{Column}
use Rattle.design_ir.specs.declared.process.DesignProcess.{DesignProcess}
use Rattle.design_ir.specs.Pools.{Pooled, answer}
use Rattle.design_ir.specs.Named.{named}
use Rattle.design_ir.specs.Values.{form, signal_form}
use Rattle.design_ir.specs.Targets.{is_target}
use Rattle.design_ir.specs.Guards.{Guarded, guarded, driven, block_exprs}
use Rattle.design_ir.specs.Circuits.{Circuit, option_test, is_among, is_input, is_register, domain_named}
use Rattle.design_ir.specs.Rows.{granules}

-- ---- expressions in which a reset stands

abbrev pub reset_test : (ℕ → Bool) → Expr → Bool
reset_test holds (Reset domain place) = true
reset_test holds e = list_any (λ (k : ExprId). holds k.0) (named e)

unfoldable pub holds_reset : Pooled → ℕ → Bool
holds_reset pool k = answer false reset_test pool.exprs k

-- ---- processes

-- an expression of the pool in which no reset stands
pub record IsUsable (c : Circuit) (e : ExprId) : Type 0 where
  pub there : e.0 < length c.pool.exprs
  pub resolved : holds_reset c.pool e.0 ≡ false

-- a usable expression of this shape
pub record IsUsableOf (c : Circuit) (f : Form) (e : ExprId) : Type 0 where
  pub usable : IsUsable c e
  pub shape : form c.pool e.0 ≡ f

abbrev pub IsDomain : Circuit → Option DomainId → Type 0
IsDomain c None = ⊤
IsDomain c (Some d) = d.0 < length c.domains

pub record IsProcess (c : Circuit) (p : DesignProcess) : Type 0 where
  pub domain : IsDomain c p.domain
  pub expressions : AllByRecursion (IsUsable c) (block_exprs p.body)
  pub targets : AllByRecursion (λ (g : Guarded). IsTrue (is_target c.pool g.target.0)) (guarded [] p.body)

-- ---- domains

-- a signal of the pool with this shape
pub record IsSignalOf (c : Circuit) (f : Form) (s : SigId) : Type 0 where
  pub there : s.0 < length c.pool.signals
  pub shape : signal_form c.pool.signals s.0 ≡ f

abbrev pub IsReset : Circuit → Option SigId → Type 0
IsReset c None = ⊤
IsReset c (Some s) = IsSignalOf c (unsigned 1) s

-- a reset is an input, where there is one
abbrev pub IsInputReset : Circuit → Option SigId → Type 0
IsInputReset c None = ⊤
IsInputReset c (Some s) = IsTrue (is_input c s.0)

-- a clock is an input and no reset, and an asynchronous reset is an input
pub record IsClockDomain (c : Circuit) (d : Domain) : Type 0 where
  pub clock : IsSignalOf c (unsigned 1) d.clk
  pub reset : IsReset c d.rst
  pub clock_input : IsTrue (is_input c d.clk.0)
  pub clock_no_reset : list_any (λ (x : Domain). option_test (λ (s : SigId). s.0 == d.clk.0) x.rst) c.domains ≡ false
  pub async_input : IsTrue d.async_reset → IsInputReset c d.rst

-- the number of a domain's reset, where it has one
abbrev pub reset_number : Domain → Option ℕ
reset_number d = option_map (λ (s : SigId). s.0) d.rst

-- ---- memories

-- the least width that has a number for each of so many rows
pub record IsAddressWidth (depth width : ℕ) : Type 0 where
  pub enough : depth ≤ 2 ^ width
  pub least : (w : ℕ) → depth ≤ 2 ^ w → width ≤ w

-- an unsigned expression that can name every row
pub record IsAddress (c : Circuit) (m : Memory) (e : ExprId) : Type 0 where
  pub usable : IsUsable c e
  pub is_unsigned : (form c.pool e.0).signed ≡ false
  pub width : IsAddressWidth m.depth (form c.pool e.0).width

-- a granule is the whole row, or divides it
pub record IsGranularity (m : Memory) (granularity : ℕ) : Type 0 where
  pub some : (granularity ≡ m.shape.width) ⊎ (0 < granularity)
  pub count : ℕ
  pub divides : m.shape.width ≡ count * granularity

pub record IsWritePort (c : Circuit) (m : Memory) (w : MemWrite) : Type 0 where
  pub domain : IsSome (domain_named c w.domain)
  pub addr : IsAddress c m w.addr
  pub word : IsUsableOf c m.shape w.word
  pub granularity : IsGranularity m w.granularity
  pub enable : IsUsableOf c (unsigned (granules m w)) w.enable

-- a port of this number writes in the read port's domain
abbrev pub IsTransparent : Memory → Option (List ℕ) → ℕ → Type 0
IsTransparent m None k = ⊥
IsTransparent m (Some d) k = IsSomeAnd (slice_get m.writes k) (λ (w : MemWrite). w.domain ≡ d)

-- a clocked port has an enable, a comb port has none
abbrev pub IsClocking : Circuit → Option (List ℕ) → Option ExprId → Type 0
IsClocking c None None = ⊤
IsClocking c None (Some e) = ⊥
IsClocking c (Some d) None = ⊥
IsClocking c (Some d) (Some e) = IsSome (domain_named c d) × IsUsableOf c (unsigned 1) e

pub record IsReadPort (c : Circuit) (m : Memory) (r : MemRead) : Type 0 where
  pub addr : IsAddress c m r.addr
  pub word : IsSignalOf c m.shape r.word
  pub word_init : IsSomeAnd (slice_get c.pool.signals r.word.0) (λ (x : Sig). x.init ≡ pos 0)
  pub clocking : IsClocking c r.domain r.enable
  pub transparent : AllByRecursion (IsTransparent m r.domain) r.transparent

pub record IsMemory (c : Circuit) (m : Memory) : Type 0 where
  pub path : IsPath m.name
  pub depth : m.depth ≤ 65536
  pub rows : length m.rows ≡ m.depth
  pub row_shapes : AllByRecursion (IsOf m.shape.signed m.shape.width) m.rows
  pub few_ports : length m.writes + length m.reads ≤ 64
  pub writes : AllByRecursion (IsWritePort c m) m.writes
  pub reads : AllByRecursion (IsReadPort c m) m.reads
  pub one_domain : AllByRecursion (λ (w : MemWrite). AllByRecursion (λ (v : MemWrite). v.domain ≡ w.domain) m.writes) m.writes

-- ---- drivers

-- the signals that each process drives, and that each read port gives
abbrev pub drivers : Circuit → List (List ℕ)
drivers c =
    map (λ (p : DesignProcess). driven c.pool p.body) c.processes
    ++ flat_map (λ (m : Memory). map (λ (r : MemRead). r.word.0 ∷ []) m.reads) c.memories

-- a signal is driven by both
abbrev pub share : List ℕ → List ℕ → Bool
share xs ys = list_any (is_among ys) xs

-- ---- columns

abbrev pub port_signals : Circuit → List ℕ
port_signals c = map (λ (p : Port). p.sig.0) c.ports

-- the ports' signals in order, then registers that are no ports
pub record AreColumns (c : Circuit) : Type 0 where
  pub registers : List ℕ
  pub split : map (λ (x : Column). x.sig.0) c.columns ≡ port_signals c ++ registers
  pub are_registers : AllByRecursion (λ s. IsTrue (is_register c s)) registers
  pub no_ports : AllByRecursion (λ s. is_among (port_signals c) s ≡ false) registers
  pub each_once : IsDistinct nat_eq registers
  pub there : AllByRecursion (λ (x : Column). x.sig.0 < length c.pool.signals) c.columns
  pub some_width : AllByRecursion (λ (x : Column). 1 ≤ (signal_form c.pool.signals x.sig.0).width) c.columns
  pub names : IsDistinct text_eq (map (λ (x : Column). x.name) c.columns)
  pub name_forms : AllByRecursion (λ (x : Column). IsPublicName x.name) c.columns

-- ---- designs

pub record IsDesign (c : Circuit) : Type 0 where
  pub few_processes : length c.processes < 2 ^ 32
  pub processes : AllByRecursion (IsProcess c) c.processes
  pub domains : AllByRecursion (IsClockDomain c) c.domains
  pub domain_names : IsDistinct text_eq (map (λ (d : Domain). d.name) c.domains)
  pub clocks : IsDistinct nat_eq (map (λ (d : Domain). d.clk.0) c.domains)
  pub resets : IsDistinct nat_eq (filter_map reset_number c.domains)
  pub memories : AllByRecursion (IsMemory c) c.memories
  pub ports : IsDistinct nat_eq (port_signals c)
  pub columns : AreColumns c
  pub one_driver : IsDistinct share (drivers c)
  pub no_driven_input : AllByRecursion (λ (p : Port). IsTrue p.is_input → list_any (λ ss. is_among ss p.sig.0) (drivers c) ≡ false) c.ports
