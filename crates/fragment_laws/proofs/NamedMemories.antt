-- The memories of a design are those of its root, under names.
use Rattle.std.specs.Prelude.{◌≡◌, refl, ℕ, List, [], ◌∷◌, ◌++◌, map, codes}
use Rattle.std.proofs.Common.{sym, ◌∙◌, ap}
use Rattle.design_ir.specs.declared.memory.Memory.{Memory}
use Rattle.design_ir.specs.declared.fragment.Fragment.{Fragment}
use Rattle.design_ir.specs.Forests.{Forest, bare, grown}
use Rattle.fragment_walks.specs.Walks.{memory_named, named_memories, path_under}
use Rattle.fragment_walks.specs.Walks as walk
use Rattle.fragment_walks.proofs.Lists.{map-append}
use Rattle.fragment_laws.specs.Parts.{unnamed, all_memories, memories_of}

unnamed_own : (name : List ℕ) (ms : List Memory) → map unnamed (map (memory_named name) ms) ≡ map unnamed ms
unnamed_own name [] = refl
unnamed_own name (m ∷ ms) = ap (λ xs. unnamed m ∷ xs) (unnamed_own name ms)

unnamed_joined : (xs ys us vs : List Memory) → map unnamed xs ≡ map unnamed us → map unnamed ys ≡ map unnamed vs → map unnamed (xs ++ ys) ≡ map unnamed (us ++ vs)
unnamed_joined xs ys us vs a b =
    map-append unnamed xs ys ∙ ap (λ zs. zs ++ map unnamed ys) a ∙ ap (λ zs. map unnamed us ++ zs) b ∙ sym (map-append unnamed us vs)

unnamed_below : (path : List ℕ) (f : Forest) → map unnamed (walk.memories_of path f) ≡ map unnamed (memories_of f)
unnamed_below path bare = refl
unnamed_below path (grown l below rest) =
    let more = walk.memories_of (path_under path l.name) below in
    unnamed_joined (named_memories path l) (more ++ walk.memories_of path rest) l.memories (memories_of below ++ memories_of rest) (unnamed_own (path ++ l.name) l.memories)
    (unnamed_joined more (walk.memories_of path rest) (memories_of below) (memories_of rest) (unnamed_below (path_under path l.name) below) (unnamed_below path rest))

pub unnamed_all : (f : Fragment) → map unnamed (walk.all_memories f) ≡ all_memories f
unnamed_all f =
    unnamed_joined (map (memory_named (codes "top")) f.memories) (walk.memories_of [] f.submodules) f.memories (memories_of f.submodules) (unnamed_own (codes "top") f.memories) (unnamed_below [] f.submodules)
