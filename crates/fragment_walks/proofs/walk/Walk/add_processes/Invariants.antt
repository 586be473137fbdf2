use Rattle.std.proofs.Common.{◌≡◌, ◌++◌, map, take}
use Rattle.design_ir.specs.declared.process.Process.{Process}
use Rattle.design_ir.specs.Fragments.{leaf_of}
use Rattle.fragment_walks.specs.Walks.{naming_path}
use Rattle.fragment_walks.proofs.walk.Walk.add_processes.Given as goal

abbrev pub invariant-loop-process : goal.invariant-loop-process
invariant-loop-process l = record {
  processes : l.self.processes.items ≡ l.fn.self.processes.items ++ take l.process-index l.process-items;
  paths : l.self.paths ≡ l.fn.self.paths ++ map (λ (p : Process). naming_path (leaf_of l.«module») l.path) (take l.process-index l.process-items);
  rest : (l.self.memories ≡ l.fn.self.memories) × (l.self.memory_paths ≡ l.fn.self.memory_paths) × (l.self.definitions ≡ l.fn.self.definitions) × (l.self.names.items ≡ l.fn.self.names.items) × (l.self.roots ≡ l.fn.self.roots);
}
