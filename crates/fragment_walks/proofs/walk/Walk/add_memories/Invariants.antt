use Rattle.std.proofs.Common.{◌≡◌, ◌++◌, map, take}
use Rattle.design_ir.specs.declared.memory.Memory.{Memory}
use Rattle.design_ir.specs.Fragments.{leaf_of}
use Rattle.fragment_walks.specs.Walks.{memory_named, naming_path}
use Rattle.fragment_walks.proofs.walk.Walk.add_memories.Given as goal

abbrev pub invariant-loop-memory : goal.invariant-loop-memory
invariant-loop-memory l = record {
  memories : l.self.memories ≡ l.fn.self.memories ++ map (memory_named l.site.name) (take l.memory-index l.memory-items);
  paths : l.self.memory_paths ≡ l.fn.self.memory_paths ++ map (λ (m : Memory). naming_path (leaf_of l.«module») l.site.path) (take l.memory-index l.memory-items);
  rest : (l.self.processes.items ≡ l.fn.self.processes.items) × (l.self.paths ≡ l.fn.self.paths) × (l.self.definitions ≡ l.fn.self.definitions) × (l.self.names.items ≡ l.fn.self.names.items) × (l.self.roots ≡ l.fn.self.roots);
}
