-- What a fragment and those below it give: a fragment's own, and then those of each that stands below it, in their order. (Amaranth
-- guide: Submodules, Elaboration, Clock domains; the order of the names of domains, the path that is a memory's name, and that a
-- library part names no register, are this project's own rules: docs/RULES.md.)
use Rattle.std.specs.Prelude.{ℕ, if◌then◌else◌, List, [], ◌++◌, map, codes, Option, Some, None}
use Rattle.std.specs.List.{filter_map, flat_map}
use Rattle.design_ir.specs.declared.memory.MemWrite.{MemWrite}
use Rattle.design_ir.specs.declared.memory.MemRead.{MemRead}
use Rattle.design_ir.specs.declared.memory.Memory.{Memory}
use Rattle.design_ir.specs.declared.domain.DomainDef.{DomainDef}
use Rattle.design_ir.specs.declared.process.Side.{Side}
use Rattle.design_ir.specs.declared.process.Side.TheVariants.{Comb, Clocked}
use Rattle.design_ir.specs.declared.process.Process.{Process}
use Rattle.design_ir.specs.declared.fragment.Fragment.{Fragment}
use Rattle.design_ir.specs.Forests.{Leaf, Forest, bare, grown}
use Rattle.design_ir.specs.Fragments.{leaf_of}
use Rattle.design_ir.specs.Pools.{Pooled}
use Rattle.fragment_walks.specs.Held.{ResetCall, held_resets, leaf_exprs}

abbrev pub gathered : {A : Type 0} → (Leaf → List A) → Forest → List A
gathered own bare = []
gathered own (grown l below rest) = own l ++ (gathered own below ++ gathered own rest)

-- ---- processes

abbrev pub processes_of : Forest → List Process
processes_of f = gathered (λ (l : Leaf). l.processes) f

abbrev pub all_processes : Fragment → List Process
all_processes f = f.processes ++ processes_of f.submodules

-- ---- paths: the names of the fragments in which something stands, but for the first, with a dot behind each

abbrev pub path_under : List ℕ → List ℕ → List ℕ
path_under path name = path ++ (name ++ codes ".")

-- what fragments give, each by the path of the one above it
abbrev pub gathered_under : {A : Type 0} → (List ℕ → Leaf → List A) → List ℕ → Forest → List A
gathered_under own path bare = []
gathered_under own path (grown l below rest) = own path l ++ (gathered_under own (path_under path l.name) below ++ gathered_under own path rest)

-- the path under which the registers of a fragment are named; a library part names none
abbrev pub naming_path : Leaf → List ℕ → Option (List ℕ)
naming_path l path = if l.is_part then None else Some path

-- for each process the path under which what it drives is named
abbrev pub process_paths : List ℕ → Leaf → List (Option (List ℕ))
process_paths path l = map (λ (p : Process). naming_path l (path_under path l.name)) l.processes

abbrev pub paths_of : List ℕ → Forest → List (Option (List ℕ))
paths_of path f = gathered_under process_paths path f

abbrev pub all_paths : Fragment → List (Option (List ℕ))
all_paths f = map (λ (p : Process). naming_path (leaf_of f) []) f.processes ++ paths_of [] f.submodules

-- ---- memories, each under the path of its fragment as its name, without a dot at the end; those of the first are `top`

abbrev pub memory_named : List ℕ → Memory → Memory
memory_named name m = record m { name = name }

abbrev pub named_memories : List ℕ → Leaf → List Memory
named_memories path l = map (memory_named (path ++ l.name)) l.memories

abbrev pub memories_of : List ℕ → Forest → List Memory
memories_of path f = gathered_under named_memories path f

abbrev pub all_memories : Fragment → List Memory
all_memories f = map (memory_named (codes "top")) f.memories ++ memories_of [] f.submodules

-- for each memory the path under which the data of its clocked read ports are named
abbrev pub memory_paths : List ℕ → Leaf → List (Option (List ℕ))
memory_paths path l = map (λ (m : Memory). naming_path l (path_under path l.name)) l.memories

abbrev pub memory_paths_of : List ℕ → Forest → List (Option (List ℕ))
memory_paths_of path f = gathered_under memory_paths path f

abbrev pub all_memory_paths : Fragment → List (Option (List ℕ))
all_memory_paths f = map (λ (m : Memory). naming_path (leaf_of f) []) f.memories ++ memory_paths_of [] f.submodules

-- ---- all that statements and memory ports make

pub record Contents : Type 0 where
  pub processes : List Process
  pub paths : List (Option (List ℕ))
  pub memories : List Memory
  pub memory_paths : List (Option (List ℕ))

abbrev pub all_contents : Fragment → Contents
all_contents f = record { processes = all_processes f; paths = all_paths f; memories = all_memories f; memory_paths = all_memory_paths f }

-- ---- the definitions of domains

abbrev pub definitions_of : Forest → List DomainDef
definitions_of f = gathered (λ (l : Leaf). l.domains) f

abbrev pub all_definitions : Fragment → List DomainDef
all_definitions f = f.domains ++ definitions_of f.submodules

-- ---- the names of domains, each as often as it stands: in a fragment those of its definitions, then of its clocked sides, then of
-- its memory ports, and then those of the resets that it holds

abbrev pub side_name : Side → Option (List ℕ)
side_name Comb = None
side_name (Clocked n) = Some n

abbrev pub port_names : Memory → List (List ℕ)
port_names m = map (λ (w : MemWrite). w.domain) m.writes ++ filter_map (λ (r : MemRead). r.domain) m.reads

-- but for those of resets
abbrev pub plain_names : Leaf → List (List ℕ)
plain_names l = map (λ (d : DomainDef). d.domain.name) l.domains ++ (filter_map (λ (p : Process). side_name p.side) l.processes ++ flat_map port_names l.memories)

abbrev pub own_names : Pooled → Leaf → List (List ℕ)
own_names q l = plain_names l ++ map (λ (r : ResetCall). r.domain) (held_resets q (leaf_exprs l))

abbrev pub names_of : Pooled → Forest → List (List ℕ)
names_of q f = gathered (own_names q) f

abbrev pub all_names : Pooled → Fragment → List (List ℕ)
all_names q f = own_names q (leaf_of f) ++ names_of q f.submodules
