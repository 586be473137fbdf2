-- What stands in a tree of modules is of the pool.
use Rattle.std.proofs.Common.{ℕ, List, [], ◌∷◌, ◌++◌, length, Option, Some, None}
use Rattle.std.specs.List.{AllByRecursion, flat_map}
use Rattle.std.specs.Option.{option_map_or}
use Rattle.design_ir.specs.declared.ids.ExprId.{ExprId}
use Rattle.design_ir.specs.declared.memory.MemWrite.{MemWrite}
use Rattle.design_ir.specs.declared.memory.MemRead.{MemRead}
use Rattle.design_ir.specs.declared.memory.Memory.{Memory}
use Rattle.design_ir.specs.declared.process.Process.{Process}
use Rattle.design_ir.specs.declared.fragment.Fragment.{Fragment}
use Rattle.design_ir.specs.Forests.{Leaf, Forest, bare, grown}
use Rattle.design_ir.specs.Fragments.{leaf_of}
use Rattle.design_ir.specs.Named.{AllBelow}
use Rattle.design_ir.specs.Pools.{Pooled}
use Rattle.design_ir.specs.Guards.{block_exprs}
use Rattle.fragment_walks.proofs.Lists.{all_imp}
use Rattle.clock_domains.specs.Resolvable.{AreModules, IsClockingOf, IsMemoryOf, IsModule, IsReadOf, IsThere, IsTree, IsWriteOf}
use Rattle.domain_transforms.specs.Placed.{forest_exprs, fragment_exprs, leaf_exprs, memory_exprs, read_exprs, write_exprs}

below_joined : (n : ℕ) (xs ys : List ExprId) → AllBelow n xs → AllBelow n ys → AllBelow n (xs ++ ys)
below_joined n [] ys h k = k
below_joined n (x ∷ xs) ys h k = (h.0, below_joined n xs ys h.1 k)

flat_there : {A : Type 0} (n : ℕ) (f : A → List ExprId) (xs : List A) → AllByRecursion (λ x. AllBelow n (f x)) xs → AllBelow n (flat_map f xs)
flat_there n f [] h = tt
flat_there n f (x ∷ xs) h = below_joined n (f x) (flat_map f xs) h.0 (flat_there n f xs h.1)

module _ (q : Pooled) where
  abbrev room : ℕ
  room = length q.exprs

  statements_there : (es : List ExprId) → AllByRecursion (IsThere q) es → AllBelow room es
  statements_there [] h = tt
  statements_there (e ∷ es) h = (h.0, statements_there es h.1)

  enable_there : (name : Option (List ℕ)) (e : Option ExprId) → IsClockingOf q name e → AllBelow room (option_map_or (λ (x : ExprId). x ∷ []) e [])
  enable_there None None h = tt
  enable_there None (Some e) h = absurd h
  enable_there (Some d) None h = absurd h
  enable_there (Some d) (Some e) h = (h.1.there, tt)

  write_there : (m : Memory) (w : MemWrite) → IsWriteOf q m w → AllBelow room (write_exprs w)
  write_there m w h = (h.addr.there, (h.word.there, (h.enable.there, tt)))

  read_there : (m : Memory) (r : MemRead) → IsReadOf q m r → AllBelow room (read_exprs r)
  read_there m r h = (h.addr.there, enable_there r.domain r.enable h.clocking)

  memory_there : (m : Memory) → IsMemoryOf q m → AllBelow room (memory_exprs m)
  memory_there m h =
      below_joined room (flat_map write_exprs m.writes) (flat_map read_exprs m.reads) (flat_there room write_exprs m.writes (all_imp (write_there m) m.writes h.writes))
      (flat_there room read_exprs m.reads (all_imp (read_there m) m.reads h.reads))

  pub module_there : (l : Leaf) → IsModule q l → AllBelow room (leaf_exprs l)
  module_there l h =
      below_joined room (flat_map (λ (p : Process). block_exprs p.body) l.processes) (flat_map memory_exprs l.memories)
      (flat_there room (λ (p : Process). block_exprs p.body) l.processes (all_imp (λ (p : Process) k. statements_there (block_exprs p.body) k.expressions) l.processes h.processes))
      (flat_there room memory_exprs l.memories (all_imp memory_there l.memories h.memories))

  modules_there : (f : Forest) → AreModules q f → AllBelow room (forest_exprs f)
  modules_there bare h = tt
  modules_there (grown l below rest) h =
      below_joined room (leaf_exprs l) (forest_exprs below ++ forest_exprs rest) (module_there l h.1.0)
      (below_joined room (forest_exprs below) (forest_exprs rest) (modules_there below h.1.1.0) (modules_there rest h.1.1.1))

  pub tree_there : (f : Fragment) → IsTree q f → AllBelow room (fragment_exprs f)
  tree_there f h = below_joined room (leaf_exprs (leaf_of f)) (forest_exprs f.submodules) (module_there (leaf_of f) h.own) (modules_there f.submodules h.below)
