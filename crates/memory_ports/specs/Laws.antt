-- What holds of every memory that is made here.
-- Internal: no rule of the language.
use Rattle.std.specs.Prelude.{◌≡◌, ◌≢◌, ℕ, ◌≤◌, false, ⊤, List, ℤ, Option, Some, None, IsSome, slice_get, map, option_map, codes}
use Rattle.std.specs.List.{AllByRecursion}
use Rattle.lists.specs.Names.{IsPath}
use Rattle.shape_rules.specs.Forms.{Form}
use Rattle.design_ir.specs.declared.ids.ExprId.{ExprId}
use Rattle.design_ir.specs.declared.signal.Sig.{Sig}
use Rattle.design_ir.specs.declared.expr.Expr.{Expr}
use Rattle.design_ir.specs.declared.memory.MemWrite.{MemWrite}
use Rattle.design_ir.specs.declared.memory.MemRead.{MemRead}
use Rattle.design_ir.specs.declared.memory.Memory.{Memory}
use Rattle.design_ir.specs.Pools.{Pooled}
use Rattle.design_ir.specs.PoolRules.{IsPool, signal_added, expr_added}
use Rattle.design_ir.specs.Settling.{is_signal, signal_settled}
use Rattle.design_ir.specs.Circuits.{Circuit, domain_named, option_test}
use Rattle.design_ir.specs.Designs.{IsAddressWidth, IsMemory}
use Rattle.memory_ports.specs.Ports.{address_width, with_signals, IsGrown}
use Rattle.memory_ports.specs.Memories.{IsSpec, HasPorts, FitsPool}
use Rattle.memory_ports.specs.Calls.{new_memory, write_signals, and_write, read_signals, and_read}

-- ---- addresses

-- an address has the least width that names every row
abbrev pub AddressesAreLeast : Type 0
AddressesAreLeast = (depth : ℕ) → depth ≤ 65536 → IsAddressWidth depth (address_width depth)

-- ---- the signals of ports

-- each call leaves the signals of all ports in the pool
abbrev pub NewHasPorts : Type 0
NewHasPorts = (q : Pooled) (shape : Form) (depth : ℕ) (rows : List ℤ) → HasPorts q (new_memory shape depth rows)

abbrev pub WritesHavePorts : Type 0
WritesHavePorts = (q : Pooled) (m : Memory) (domain : List ℕ) (granularity : Option ℕ) → HasPorts q m → HasPorts (with_signals q (write_signals m granularity)) (and_write q m domain granularity)

abbrev pub ReadsHavePorts : Type 0
ReadsHavePorts = (q : Pooled) (m : Memory) (domain : Option (List ℕ)) (transparent : List ℕ) → HasPorts q m → HasPorts (with_signals q (read_signals m domain)) (and_read q m domain transparent)

-- and there they stay, however the pool grows
abbrev pub PortsStay : Type 0
PortsStay = (q q' : Pooled) (m : Memory) → IsGrown q q' → HasPorts q m → HasPorts q' m

-- a pool grows by signals and by expressions, one after another
pub record PoolsGrow : Type 0 where
  pub same : (q : Pooled) → IsGrown q q
  pub signals : (q : Pooled) (x : Sig) → IsGrown q (signal_added q x)
  pub exprs : (q : Pooled) (e : Expr) → IsGrown q (expr_added q e)
  pub more : (p q r : Pooled) → IsGrown p q → IsGrown q r → IsGrown p r

-- the expression is not this signal
abbrev pub IsOther : Pooled → ℕ → ExprId → Type 0
IsOther q t e = option_test (is_signal t) (slice_get q.exprs e.0) ≡ false

abbrev pub IsOtherEnable : Pooled → ℕ → Option ExprId → Type 0
IsOtherEnable q t None = ⊤
IsOtherEnable q t (Some e) = IsOther q t e

abbrev pub IsOtherWrite : Pooled → ℕ → MemWrite → Type 0
IsOtherWrite q t w = IsOther q t w.addr × IsOther q t w.word × IsOther q t w.enable

abbrev pub IsOtherRead : Pooled → ℕ → MemRead → Type 0
IsOtherRead q t r = IsOther q t r.addr × (t ≢ r.word.0) × IsOtherEnable q t r.enable

-- no port of the memory has this signal
pub record IsApart (q : Pooled) (t : ℕ) (m : Memory) : Type 0 where
  pub writes : AllByRecursion (IsOtherWrite q t) m.writes
  pub reads : AllByRecursion (IsOtherRead q t) m.reads

-- nor does it matter which other signals are settled
abbrev pub OthersLeavePorts : Type 0
OthersLeavePorts = (q : Pooled) (m : Memory) (t : ℕ) (f : Form) (n : ℤ) → IsApart q t m → HasPorts q m → HasPorts (signal_settled q t f n) m

-- ---- what a design asks

-- the ports that are made fit
abbrev pub PortsFit : Type 0
PortsFit = (q : Pooled) (m : Memory) → IsPool q → HasPorts q m → FitsPool q m

-- and what fits does so still where the pool has grown
abbrev pub FittingStay : Type 0
FittingStay = (q q' : Pooled) (m : Memory) → IsPool q → IsGrown q q' → FitsPool q m → FitsPool q' m

-- a port's domain is there, where it has one
abbrev pub HasDomain : Circuit → Option (List ℕ) → Type 0
HasDomain c None = ⊤
HasDomain c (Some domain) = IsSome (domain_named c domain)

pub record HasDomains (c : Circuit) (m : Memory) : Type 0 where
  pub writes : AllByRecursion (λ (w : MemWrite). HasDomain c (Some w.domain)) m.writes
  pub reads : AllByRecursion (λ (r : MemRead). HasDomain c r.domain) m.reads

-- With a name, and where its domains are, what is made is a memory of the design.
abbrev pub SpecsAreMemories : Type 0
SpecsAreMemories = (c : Circuit) (m : Memory) (name : List ℕ) → IsSpec m → FitsPool c.pool m → HasDomains c m → IsPath name → IsMemory c (record m { name = name })

-- ---- other names of domains

abbrev pub renamed : (List ℕ → List ℕ) → Memory → Memory
renamed f m =
    record m {
      writes = map (λ (w : MemWrite). record w { domain = f w.domain }) m.writes;
      reads = map (λ (r : MemRead). record r { domain = option_map f r.domain }) m.reads;
    }

-- where no domain is renamed to `comb`, it stays a memory that is being made, and fits
pub record IsRenamedWell (f : List ℕ → List ℕ) (m : Memory) : Type 0 where
  pub spec : IsSpec m → IsSpec (renamed f m)
  pub fits : (q : Pooled) → FitsPool q m → FitsPool q (renamed f m)

abbrev pub RenamesStay : Type 0
RenamesStay = (f : List ℕ → List ℕ) (m : Memory) → ((domain : List ℕ) → domain ≢ codes "comb" → f domain ≢ codes "comb") → IsRenamedWell f m
