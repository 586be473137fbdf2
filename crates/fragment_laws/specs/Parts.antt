-- All memories of a fragment: its own, and then those of the fragments below it, in their order. (Amaranth guide:
-- Submodules, Elaboration)
use Rattle.std.specs.Prelude.{List, [], ◌++◌, map}
use Rattle.design_ir.specs.declared.memory.Memory.{Memory}
use Rattle.design_ir.specs.declared.fragment.Fragment.{Fragment}
use Rattle.design_ir.specs.Forests.{Forest, bare, grown}

abbrev pub memories_of : Forest → List Memory
memories_of bare = []
memories_of (grown l below rest) = l.memories ++ (memories_of below ++ memories_of rest)

-- a memory but for its name, which is its path in a whole design and says nothing of what it does
abbrev pub unnamed : Memory → Memory
unnamed m = record m { name = [] }

abbrev pub all_memories : Fragment → List Memory
all_memories f = map unnamed (f.memories ++ memories_of f.submodules)
