-- A module with those below it whose domains were made.
use Rattle.std.specs.Prelude.{◌≡◌, ◌++◌, ℕ, ◌<◌, ◌≤◌, ⊤, false, List, map, length, position, is_some, IsSome, Option, Some, None, codes}
use Rattle.std.specs.List.{AllByRecursion, IsDistinct, flat_map}
use Rattle.lists.specs.Texts.{text_eq}
use Rattle.lists.specs.Names.{IsName, IsPath}
use Rattle.design_ir.specs.declared.signal.Sig.{Sig}
use Rattle.design_ir.specs.declared.domain.Domain.{Domain}
use Rattle.design_ir.specs.declared.memory.MemWrite.{MemWrite}
use Rattle.design_ir.specs.declared.memory.MemRead.{MemRead}
use Rattle.design_ir.specs.declared.memory.Memory.{Memory}
use Rattle.design_ir.specs.declared.process.Process.{Process}
use Rattle.design_ir.specs.Pools.{Pooled}
use Rattle.design_ir.specs.Circuits.{is_among}
use Rattle.design_ir.specs.Designs.{share}
use Rattle.fragment_walks.specs.Held.{memory_exprs}
use Rattle.fragment_walks.specs.Reads.{data_signals}
use Rattle.fragment_walks.specs.Walks.{Contents}
use Rattle.clock_domains.specs.declared.top.TopPorts.{TopPorts}
use Rattle.clock_domains.specs.Resolvable.{IsPlain, IsSideOf, IsMemoryOf, AreTopPorts, IsDomainOf, domain_numbers, top_inputs}
use Rattle.clock_domains.specs.Resolved.{clocked_data, domain_number, is_clocked}

-- names, with a dot behind each
pub record IsUnder (path : List ℕ) : Type 0 where
  pub names : List (List ℕ)
  pub each : AllByRecursion IsName names
  pub whole : path ≡ flat_map (λ n. n ++ codes ".") names

-- none, or names with a dot behind each
abbrev pub IsNaming : Option (List ℕ) → Type 0
IsNaming None = ⊤
IsNaming (Some path) = IsUnder path

-- all processes and all memories, each with a path
pub record AreWalked (all : Contents) : Type 0 where
  pub size : length all.paths ≡ length all.processes
  pub each : AllByRecursion IsNaming all.paths
  pub memory_size : length all.memory_paths ≡ length all.memories
  pub memory_each : AllByRecursion IsNaming all.memory_paths

-- clocked read ports give signals of the pool
abbrev pub AreClocked : Pooled → List Memory → Type 0
AreClocked q ms = AllByRecursion (λ (m : Memory). AllByRecursion (λ s. s < length q.signals) (clocked_data m)) ms

-- a clocked side has one of these domains
abbrev pub HasDomain : List Domain → Process → Type 0
HasDomain ds p = is_some (domain_number ds p.side) ≡ is_clocked p

-- there is a domain with this name
abbrev pub IsNamedDomain : List Domain → Option (List ℕ) → Type 0
IsNamedDomain ds None = ⊤
IsNamedDomain ds (Some name) = IsSome (position (λ (d : Domain). text_eq d.name name) ds)

-- the ports of a memory have some of these domains
pub record HasDomains (ds : List Domain) (m : Memory) : Type 0 where
  pub writes : AllByRecursion (λ (w : MemWrite). IsNamedDomain ds (Some w.domain)) m.writes
  pub reads : AllByRecursion (λ (r : MemRead). IsNamedDomain ds r.domain) m.reads

-- a memory under a path, of whose ports the expressions are plain
pub record IsPlainMemory (q : Pooled) (m : Memory) : Type 0 where
  pub path : IsPath m.name
  pub memory : IsMemoryOf q m
  pub expressions : AllByRecursion (IsPlain q) (memory_exprs m)

-- what holds of the pool and the domains, the top's processes and all that fragments hold, and the ports
pub record IsReady (q : Pooled) (ds : List Domain) (own : List Process) (all : Contents) (top : TopPorts) : Type 0 where
  pub walk : AreWalked all
  pub own_processes : AllByRecursion (IsSideOf q) own
  pub processes : AllByRecursion (IsSideOf q) all.processes
  pub memories : AllByRecursion (IsPlainMemory q) all.memories
  pub names : AllByRecursion (λ (x : Sig). IsName x.name) q.signals
  pub ports : AreTopPorts q top
  pub few : length ds ≤ 64
  pub domains : AllByRecursion (IsDomainOf q) ds
  pub domain_names : IsDistinct text_eq (map (λ (d : Domain). d.name) ds)
  pub apart : IsDistinct share (map domain_numbers ds)
  pub known : AllByRecursion (HasDomain ds) all.processes
  pub ports_known : AllByRecursion (HasDomains ds) all.memories
  pub free_data : AllByRecursion (λ s. is_among (flat_map domain_numbers ds ++ top_inputs top) s ≡ false) (data_signals all.memories)
