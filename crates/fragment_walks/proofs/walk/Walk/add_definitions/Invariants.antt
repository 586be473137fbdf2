use Rattle.std.proofs.Common.{◌≡◌, ◌++◌, take}
use Rattle.fragment_walks.proofs.walk.Walk.add_definitions.Given as goal

abbrev pub invariant-loop-definition : goal.invariant-loop-definition
invariant-loop-definition l = record {
  definitions : l.self.definitions ≡ l.fn.self.definitions ++ take l.definition-index l.definitions;
  rest : (l.self.processes.items ≡ l.fn.self.processes.items) × (l.self.paths ≡ l.fn.self.paths) × (l.self.memories ≡ l.fn.self.memories) × (l.self.memory_paths ≡ l.fn.self.memory_paths) × (l.self.names.items ≡ l.fn.self.names.items) × (l.self.roots ≡ l.fn.self.roots);
}
