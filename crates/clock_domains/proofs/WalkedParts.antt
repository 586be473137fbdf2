-- What holds of the processes and of the memories of a module with those below it, from what stands in it.
use Rattle.std.proofs.Common.{◌≡◌, ◌<◌, ℕ, Bool, true, false, IsTrue, List, [], ◌∷◌, ◌++◌, map, length, slice_get, Option, Some, None, refl, sym, ap, ◌∙◌, subst, codes}
use Rattle.std.specs.Prelude.{All, IsSomeAnd}
use Rattle.std.specs.List.{AllByRecursion, flat_map, filter_map, list_any}
use Rattle.std.proofs.lemmas.List.Elements.{All-cons, All-nil}
use Rattle.lists.specs.Names.{IsName, IsPath, continues_name}
use Rattle.lists.specs.Texts.{text_eq}
use Rattle.design_ir.specs.declared.ids.ExprId.{ExprId}
use Rattle.design_ir.specs.declared.domain.DomainDef.{DomainDef}
use Rattle.design_ir.specs.declared.memory.MemRead.{MemRead}
use Rattle.design_ir.specs.declared.memory.Memory.{Memory}
use Rattle.design_ir.specs.declared.process.Process.{Process}
use Rattle.design_ir.specs.declared.fragment.Fragment.{Fragment}
use Rattle.design_ir.specs.Forests.{Leaf, Forest, bare, grown}
use Rattle.design_ir.specs.Fragments.{leaf_of}
use Rattle.design_ir.specs.Trees.{Statement, assign, choose, Choices, none, arm, Block, done, next}
use Rattle.design_ir.specs.Guards.{Guard, Guarded, guarded, guarded_in, guarded_arms, statement_exprs, choices_exprs, block_exprs}
use Rattle.design_ir.specs.Pools.{Pooled}
use Rattle.fragment_walks.specs.Held.{ResetCall, forest_exprs, fragment_exprs, held_resets, leaf_exprs, memory_exprs}
use Rattle.fragment_walks.specs.Reads.{data_signals}
use Rattle.fragment_walks.specs.Walks.{all_memories, all_names, all_processes, memories_of, memory_named, named_memories, names_of, own_names, path_under, plain_names, port_names, processes_of, side_name}
use Rattle.fragment_walks.proofs.Lists.{all_both, all_imp, all_joined, all_left, all_mapped, all_right}
use Rattle.clock_domains.specs.Ready.{IsUnder}
use Rattle.clock_domains.specs.Resolvable.{AreModules, IsMemoryOf, IsModule, IsOpenSide, IsReadOf, IsTree}
use Rattle.clock_domains.proofs.DesignMemories.{all_parted}
use Rattle.clock_domains.proofs.DesignNames.{name_path, under_path}
use Rattle.clock_domains.proofs.WalkedNames.{top_path, under_more}

-- ---- memories under their names, by what stands in them

top_name : IsName (codes "top")
top_name = record {
  first = 116;
  rest = codes "op";
  whole = refl;
  starts = refl;
  continues = All-cons (λ b. IsTrue (continues_name b)) 111 (codes "p") refl (All-cons (λ b. IsTrue (continues_name b)) 112 [] refl (All-nil (λ b. IsTrue (continues_name b))));
}

module _ (q : Pooled) (W : ExprId → Type 0) (P : Memory → Type 0) (each : (name : List ℕ) (m : Memory) → IsPath name → IsMemoryOf q m → AllByRecursion W (memory_exprs m) → P (memory_named name m)) where
  own_memories : (name : List ℕ) (l : Leaf) → IsPath name → IsModule q l → AllByRecursion W (leaf_exprs l) → AllByRecursion P (map (memory_named name) l.memories)
  own_memories name l path h w =
      all_mapped P (memory_named name) l.memories
      (all_both {P = IsMemoryOf q} {Q = λ (m : Memory). AllByRecursion W (memory_exprs m)} (λ (m : Memory) k v. each name m path k v) l.memories h.memories
      (all_parted W memory_exprs l.memories (all_right W (flat_map (λ (p : Process). block_exprs p.body) l.processes) (flat_map memory_exprs l.memories) w)))

  below_memories : (path : List ℕ) (f : Forest) → IsUnder path → AreModules q f → AllByRecursion W (forest_exprs f) → AllByRecursion P (memories_of path f)
  below_memories path bare u h w = tt
  below_memories path (grown l below rest) u h w =
      let more = all_right W (leaf_exprs l) (forest_exprs below ++ forest_exprs rest) w in
      all_joined P (named_memories path l) (memories_of (path_under path l.name) below ++ memories_of path rest) (own_memories (path ++ l.name) l (under_path path l.name u h.0) h.1.0 (all_left W (leaf_exprs l) (forest_exprs below ++ forest_exprs rest) w))
      (all_joined P (memories_of (path_under path l.name) below) (memories_of path rest) (below_memories (path_under path l.name) below (under_more path l.name u h.0) h.1.1.0 (all_left W (forest_exprs below) (forest_exprs rest) more)) (below_memories path rest u h.1.1.1 (all_right W (forest_exprs below) (forest_exprs rest) more)))

  pub walk_memories : (f : Fragment) → IsTree q f → AllByRecursion W (fragment_exprs f) → AllByRecursion P (all_memories f)
  walk_memories f h w =
      all_joined P (map (memory_named (codes "top")) f.memories) (memories_of [] f.submodules) (own_memories (codes "top") (leaf_of f) (name_path (codes "top") top_name) h.own (all_left W (leaf_exprs (leaf_of f)) (forest_exprs f.submodules) w))
      (below_memories [] f.submodules top_path h.below (all_right W (leaf_exprs (leaf_of f)) (forest_exprs f.submodules) w))

-- ---- processes, by what stands in them

module _ (q : Pooled) (W : ExprId → Type 0) (P : Process → Type 0) (each : (p : Process) → IsOpenSide q p → AllByRecursion W (block_exprs p.body) → P p) where
  pub leaf_processes : (l : Leaf) → IsModule q l → AllByRecursion W (leaf_exprs l) → AllByRecursion P l.processes
  leaf_processes l h w =
      all_both {P = IsOpenSide q} {Q = λ (p : Process). AllByRecursion W (block_exprs p.body)} (λ (p : Process) k v. each p k v) l.processes h.processes
      (all_parted W (λ (p : Process). block_exprs p.body) l.processes (all_left W (flat_map (λ (p : Process). block_exprs p.body) l.processes) (flat_map memory_exprs l.memories) w))

  below_processes : (f : Forest) → AreModules q f → AllByRecursion W (forest_exprs f) → AllByRecursion P (processes_of f)
  below_processes bare h w = tt
  below_processes (grown l below rest) h w =
      let more = all_right W (leaf_exprs l) (forest_exprs below ++ forest_exprs rest) w in
      all_joined P l.processes (processes_of below ++ processes_of rest) (leaf_processes l h.1.0 (all_left W (leaf_exprs l) (forest_exprs below ++ forest_exprs rest) w))
      (all_joined P (processes_of below) (processes_of rest) (below_processes below h.1.1.0 (all_left W (forest_exprs below) (forest_exprs rest) more)) (below_processes rest h.1.1.1 (all_right W (forest_exprs below) (forest_exprs rest) more)))

  pub top_processes : (f : Fragment) → IsTree q f → AllByRecursion W (fragment_exprs f) → AllByRecursion P f.processes
  top_processes f h w = leaf_processes (leaf_of f) h.own (all_left W (leaf_exprs (leaf_of f)) (forest_exprs f.submodules) w)

  pub walk_processes : (f : Fragment) → IsTree q f → AllByRecursion W (fragment_exprs f) → AllByRecursion P (all_processes f)
  walk_processes f h w = all_joined P f.processes (processes_of f.submodules) (top_processes f h w) (below_processes f.submodules h.below (all_right W (leaf_exprs (leaf_of f)) (forest_exprs f.submodules) w))

-- what holds of all that stands in statements holds of their targets
module _ (W : ExprId → Type 0) where
  mutual
    statement_targets : (gs : List Guard) (s : Statement) → AllByRecursion W (statement_exprs s) → AllByRecursion (λ (g : Guarded). W g.target) (guarded_in gs s)
    statement_targets gs (assign t v p) h = (h.0, tt)
    statement_targets gs (choose arms) h = choices_targets gs arms h

    choices_targets : (gs : List Guard) (c : Choices) → AllByRecursion W (choices_exprs c) → AllByRecursion (λ (g : Guarded). W g.target) (guarded_arms gs c)
    choices_targets gs none h = tt
    choices_targets gs (arm c body others) h =
        all_joined (λ (g : Guarded). W g.target) (guarded (gs ++ record { condition = c; taken = true } ∷ []) body) (guarded_arms (gs ++ record { condition = c; taken = false } ∷ []) others)
        (block_targets (gs ++ record { condition = c; taken = true } ∷ []) body (all_left W (block_exprs body) (choices_exprs others) h.1))
        (choices_targets (gs ++ record { condition = c; taken = false } ∷ []) others (all_right W (block_exprs body) (choices_exprs others) h.1))

    pub block_targets : (gs : List Guard) (b : Block) → AllByRecursion W (block_exprs b) → AllByRecursion (λ (g : Guarded). W g.target) (guarded gs b)
    block_targets gs done h = tt
    block_targets gs (next s rest) h =
        all_joined (λ (g : Guarded). W g.target) (guarded_in gs s) (guarded gs rest) (statement_targets gs s (all_left W (statement_exprs s) (block_exprs rest) h)) (block_targets gs rest (all_right W (statement_exprs s) (block_exprs rest) h))

-- ---- the names of memory ports are among those of domains

module _ (q : Pooled) (V : List ℕ → Type 0) where
  abbrev HasPorts : Memory → Type 0
  HasPorts m = AllByRecursion V (port_names m)

  own_ports : (name : List ℕ) (l : Leaf) → AllByRecursion V (own_names q l) → AllByRecursion HasPorts (map (memory_named name) l.memories)
  own_ports name l v =
      let plain = all_left V (plain_names l) (map (λ (r : ResetCall). r.domain) (held_resets q (leaf_exprs l))) v in
      let rest = all_right V (map (λ (d : DomainDef). d.domain.name) l.domains) (filter_map (λ (p : Process). side_name p.side) l.processes ++ flat_map port_names l.memories) plain in
      all_mapped HasPorts (memory_named name) l.memories (all_parted V port_names l.memories (all_right V (filter_map (λ (p : Process). side_name p.side) l.processes) (flat_map port_names l.memories) rest))

  below_ports : (path : List ℕ) (f : Forest) → AllByRecursion V (names_of q f) → AllByRecursion HasPorts (memories_of path f)
  below_ports path bare v = tt
  below_ports path (grown l below rest) v =
      let more = all_right V (own_names q l) (names_of q below ++ names_of q rest) v in
      all_joined HasPorts (named_memories path l) (memories_of (path_under path l.name) below ++ memories_of path rest) (own_ports (path ++ l.name) l (all_left V (own_names q l) (names_of q below ++ names_of q rest) v))
      (all_joined HasPorts (memories_of (path_under path l.name) below) (memories_of path rest) (below_ports (path_under path l.name) below (all_left V (names_of q below) (names_of q rest) more)) (below_ports path rest (all_right V (names_of q below) (names_of q rest) more)))

  pub walk_ports : (f : Fragment) → AllByRecursion V (all_names q f) → AllByRecursion HasPorts (all_memories f)
  walk_ports f v =
      all_joined HasPorts (map (memory_named (codes "top")) f.memories) (memories_of [] f.submodules) (own_ports (codes "top") (leaf_of f) (all_left V (own_names q (leaf_of f)) (names_of q f.submodules) v))
      (below_ports [] f.submodules (all_right V (own_names q (leaf_of f)) (names_of q f.submodules) v))
