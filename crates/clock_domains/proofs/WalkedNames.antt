-- What a tree of modules gives has the names that are asked of it: paths, sides, definitions and domains.
use Rattle.std.proofs.Common.{◌≡◌, ℕ, ◌+◌, Bool, true, false, ◌&&◌, cond, List, [], ◌∷◌, ◌++◌, map, Option, Some, None, codes, refl, sym, ap, ◌∙◌, subst, append-nil}
use Rattle.std.specs.List.{AllByRecursion, cons_option, flat_map, filter_map}
use Rattle.std.proofs.lemmas.List.Concat.{flat_map-append}
use Rattle.lists.specs.Names.{IsName}
use Rattle.design_ir.specs.declared.ids.ExprId.{ExprId}
use Rattle.design_ir.specs.declared.domain.DomainDef.{DomainDef}
use Rattle.design_ir.specs.declared.memory.MemWrite.{MemWrite}
use Rattle.design_ir.specs.declared.memory.MemRead.{MemRead}
use Rattle.design_ir.specs.declared.memory.Memory.{Memory}
use Rattle.design_ir.specs.declared.process.Side.{Side}
use Rattle.design_ir.specs.declared.process.Side.TheVariants.{Comb, Clocked}
use Rattle.design_ir.specs.declared.process.Process.{Process}
use Rattle.design_ir.specs.declared.fragment.Fragment.{Fragment}
use Rattle.design_ir.specs.Forests.{Leaf, Forest, bare, grown}
use Rattle.design_ir.specs.Fragments.{leaf_of}
use Rattle.design_ir.specs.Pools.{Pooled}
use Rattle.design_ir.specs.Guards.{driven}
use Rattle.design_ir.specs.Circuits.{is_among}
use Rattle.fragment_walks.specs.Held.{ResetCall, held_resets, leaf_exprs}
use Rattle.fragment_walks.specs.Walks.{gathered_under, processes_of, all_processes, naming_path, path_under, process_paths, paths_of, all_paths, memory_paths, memory_paths_of, all_memory_paths, plain_names, port_names, definitions_of, all_definitions, own_names, names_of, all_names}
use Rattle.fragment_walks.proofs.Lists.{all_imp, all_joined, all_mapped}
use Rattle.fragment_walks.proofs.WalkLaws.{clocked_names}
use Rattle.clock_domains.specs.Resolvable.{IsClockingOf, IsDefinition, IsMemoryOf, IsNamedSide, IsOpenSide, IsModule, IsReadOf, IsTree, IsWriteOf, AreModules}
use Rattle.clock_domains.specs.Resolved.{clocked_data, is_clocked, memory_path, process_path}
use Rattle.clock_domains.specs.Ready.{IsNaming, IsUnder}

-- ---- each path is of names

pub top_path : IsUnder []
top_path = record { names = []; each = tt; whole = refl }

pub under_more : (path name : List ℕ) → IsUnder path → IsName name → IsUnder (path_under path name)
under_more path name h n = record {
  names = h.names ++ name ∷ [];
  each = all_joined IsName h.names (name ∷ []) h.each (n, tt);
  whole =
      ap (λ xs. xs ++ (name ++ codes ".")) h.whole
      ∙ ap (λ xs. flat_map (λ n. n ++ codes ".") h.names ++ xs) (sym (append-nil (name ++ codes ".")))
      ∙ sym (flat_map-append (λ n. n ++ codes ".") h.names (name ∷ []));
}

naming : (l : Leaf) (path : List ℕ) → IsUnder path → IsNaming (naming_path l path)
naming l path h = by l.is_part
  where
    by : (b : Bool) → IsNaming (cond b None (Some path))
    by true = tt
    by false = h

same_path : {X : Type 0} (path : Option (List ℕ)) (xs : List X) → IsNaming path → AllByRecursion IsNaming (map (λ (x : X). path) xs)
same_path path [] h = tt
same_path path (x ∷ xs) h = (h, same_path path xs h)

-- whatever has a path for each of its items
module _ (q : Pooled) (own : List ℕ → Leaf → List (Option (List ℕ))) (each : (path : List ℕ) (l : Leaf) → IsUnder (path_under path l.name) → AllByRecursion IsNaming (own path l)) where
  below_named : (path : List ℕ) (f : Forest) → IsUnder path → AreModules q f → AllByRecursion IsNaming (gathered_under own path f)
  below_named path bare u h = tt
  below_named path (grown l below rest) u h =
      let under = under_more path l.name u h.0 in
      all_joined IsNaming (own path l) (gathered_under own (path_under path l.name) below ++ gathered_under own path rest) (each path l under)
      (all_joined IsNaming (gathered_under own (path_under path l.name) below) (gathered_under own path rest) (below_named (path_under path l.name) below under h.1.1.0) (below_named path rest u h.1.1.1))

pub walk_named : (q : Pooled) (f : Fragment) → IsTree q f → AllByRecursion IsNaming (all_paths f)
walk_named q f h =
    all_joined IsNaming (map (λ (p : Process). naming_path (leaf_of f) []) f.processes) (paths_of [] f.submodules) (same_path (naming_path (leaf_of f) []) f.processes (naming (leaf_of f) [] top_path))
    (below_named q process_paths (λ path l u. same_path (naming_path l (path_under path l.name)) l.processes (naming l (path_under path l.name) u)) [] f.submodules top_path h.below)

pub walk_memory_named : (q : Pooled) (f : Fragment) → IsTree q f → AllByRecursion IsNaming (all_memory_paths f)
walk_memory_named q f h =
    all_joined IsNaming (map (λ (m : Memory). naming_path (leaf_of f) []) f.memories) (memory_paths_of [] f.submodules) (same_path (naming_path (leaf_of f) []) f.memories (naming (leaf_of f) [] top_path))
    (below_named q memory_paths (λ path l u. same_path (naming_path l (path_under path l.name)) l.memories (naming l (path_under path l.name) u)) [] f.submodules top_path h.below)

-- ---- what holds of each process

below_sides : (q : Pooled) (f : Forest) → AreModules q f → AllByRecursion (IsOpenSide q) (processes_of f)
below_sides q bare h = tt
below_sides q (grown l below rest) h =
    all_joined (IsOpenSide q) l.processes (processes_of below ++ processes_of rest) h.1.0.processes (all_joined (IsOpenSide q) (processes_of below) (processes_of rest) (below_sides q below h.1.1.0) (below_sides q rest h.1.1.1))

pub walk_sides : (q : Pooled) (f : Fragment) → IsTree q f → AllByRecursion (IsOpenSide q) (all_processes f)
walk_sides q f h = all_joined (IsOpenSide q) f.processes (processes_of f.submodules) h.own.processes (below_sides q f.submodules h.below)

-- ---- what holds of each definition

below_definitions : (q : Pooled) (f : Forest) → AreModules q f → AllByRecursion (IsDefinition q) (definitions_of f)
below_definitions q bare h = tt
below_definitions q (grown l below rest) h =
    all_joined (IsDefinition q) l.domains (definitions_of below ++ definitions_of rest) h.1.0.domains (all_joined (IsDefinition q) (definitions_of below) (definitions_of rest) (below_definitions q below h.1.1.0) (below_definitions q rest h.1.1.1))

pub walk_definitions : (q : Pooled) (f : Fragment) → IsTree q f → AllByRecursion (IsDefinition q) (all_definitions f)
walk_definitions q f h = all_joined (IsDefinition q) f.domains (definitions_of f.submodules) h.own.domains (below_definitions q f.submodules h.below)

-- ---- the names of domains are names

clocked_named : (q : Pooled) (ps : List Process) → AllByRecursion (IsOpenSide q) ps → AllByRecursion IsName (clocked_names ps)
clocked_named q [] h = tt
clocked_named q (p ∷ ps) h = by_side p.side refl h.0.side (clocked_named q ps h.1)
  where
    by_side : (s : Side) → p.side ≡ s → IsNamedSide p.side → AllByRecursion IsName (clocked_names ps) → AllByRecursion IsName (clocked_names (p ∷ ps))
    by_side Comb e n rest = subst (λ (s : Side). AllByRecursion IsName (clocked_names (record { side = s; body = p.body } ∷ ps))) (sym e) rest
    by_side (Clocked m) e n rest = subst (λ (s : Side). AllByRecursion IsName (clocked_names (record { side = s; body = p.body } ∷ ps))) (sym e) (subst IsNamedSide e n, rest)

clocking_named : (q : Pooled) (d : Option (List ℕ)) (e : Option ExprId) (names : List (List ℕ)) → IsClockingOf q d e → AllByRecursion IsName names → AllByRecursion IsName (cons_option d names)
clocking_named q None e names h rest = rest
clocking_named q (Some n) None names h rest = absurd h
clocking_named q (Some n) (Some e) names h rest = (h.0, rest)

reads_named : (q : Pooled) (m : Memory) (rs : List MemRead) → AllByRecursion (IsReadOf q m) rs → AllByRecursion IsName (filter_map (λ (r : MemRead). r.domain) rs)
reads_named q m [] h = tt
reads_named q m (r ∷ rs) h = clocking_named q r.domain r.enable (filter_map (λ (r : MemRead). r.domain) rs) h.0.clocking (reads_named q m rs h.1)

ports_named : (q : Pooled) (m : Memory) → IsMemoryOf q m → AllByRecursion IsName (port_names m)
ports_named q m h =
    all_joined IsName (map (λ (w : MemWrite). w.domain) m.writes) (filter_map (λ (r : MemRead). r.domain) m.reads)
    (all_mapped IsName (λ (w : MemWrite). w.domain) m.writes (all_imp (λ (w : MemWrite) (x : IsWriteOf q m w). x.domain) m.writes h.writes))
    (reads_named q m m.reads h.reads)

memories_named : (q : Pooled) (ms : List Memory) → AllByRecursion (IsMemoryOf q) ms → AllByRecursion IsName (flat_map port_names ms)
memories_named q [] h = tt
memories_named q (m ∷ ms) h = all_joined IsName (port_names m) (flat_map port_names ms) (ports_named q m h.0) (memories_named q ms h.1)

own_named : (q : Pooled) (l : Leaf) → IsModule q l → AllByRecursion IsName (own_names q l)
own_named q l h =
    all_joined IsName (plain_names l) (map (λ (r : ResetCall). r.domain) (held_resets q (leaf_exprs l)))
    (all_joined IsName (map (λ (d : DomainDef). d.domain.name) l.domains) (clocked_names l.processes ++ flat_map port_names l.memories)
    (all_mapped IsName (λ (d : DomainDef). d.domain.name) l.domains (all_imp (λ (d : DomainDef) (x : IsDefinition q d). x.name) l.domains h.domains))
    (all_joined IsName (clocked_names l.processes) (flat_map port_names l.memories) (clocked_named q l.processes h.processes) (memories_named q l.memories h.memories)))
    (all_mapped IsName (λ (r : ResetCall). r.domain) (held_resets q (leaf_exprs l)) h.resets)

below_names : (q : Pooled) (f : Forest) → AreModules q f → AllByRecursion IsName (names_of q f)
below_names q bare h = tt
below_names q (grown l below rest) h =
    all_joined IsName (own_names q l) (names_of q below ++ names_of q rest) (own_named q l h.1.0) (all_joined IsName (names_of q below) (names_of q rest) (below_names q below h.1.1.0) (below_names q rest h.1.1.1))

pub walk_names : (q : Pooled) (f : Fragment) → IsTree q f → AllByRecursion IsName (all_names q f)
walk_names q f h = all_joined IsName (own_names q (leaf_of f)) (names_of q f.submodules) (own_named q (leaf_of f) h.own) (below_names q f.submodules h.below)

-- ---- the path of a register is one of them

pub process_naming : (q : Pooled) (ps : List Process) (paths : List (Option (List ℕ))) (s : ℕ) → AllByRecursion IsNaming paths → IsNaming (process_path q ps paths s)
process_naming q [] paths s h = tt
process_naming q (p ∷ ps) [] s h = tt
process_naming q (p ∷ ps) (path ∷ paths) s h = split (is_clocked p && is_among (driven q p.body) s) (process_naming q ps paths s h.1)
  where
    split : (b : Bool) → IsNaming (process_path q ps paths s) → IsNaming (cond b path (process_path q ps paths s))
    split true rest = h.0
    split false rest = rest

pub memory_naming : (ms : List Memory) (paths : List (Option (List ℕ))) (s : ℕ) → AllByRecursion IsNaming paths → IsNaming (memory_path ms paths s)
memory_naming [] paths s h = tt
memory_naming (m ∷ ms) [] s h = tt
memory_naming (m ∷ ms) (path ∷ paths) s h = split (is_among (clocked_data m) s) (memory_naming ms paths s h.1)
  where
    split : (b : Bool) → IsNaming (memory_path ms paths s) → IsNaming (cond b path (memory_path ms paths s))
    split true rest = h.0
    split false rest = rest
