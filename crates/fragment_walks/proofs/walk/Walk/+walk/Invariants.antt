use Rattle.std.proofs.Common.{◌≡◌, ◌++◌, map, take}
use Rattle.design_ir.specs.Forests.{forest_size}
use Rattle.design_ir.specs.Fragments.{forest_of}
use Rattle.fragment_walks.specs.Held.{leaf_exprs}
use Rattle.fragment_walks.specs.Names.{leaves_of}
use Rattle.fragment_walks.specs.Walks.{definitions_of, memories_of, memory_paths_of, paths_of, plain_names, processes_of}
use Rattle.fragment_walks.proofs.walk.Walk.+walk.Given as goal

abbrev pub decreases-add_all : goal.decreases-add_all
decreases-add_all l = forest_size l.modules.now

abbrev pub invariant-loop-module : goal.invariant-loop-module
invariant-loop-module l =
    let done = forest_of (take l.module-index l.module-items) in
    record {
      processes : l.self.processes.items ≡ l.fn.self.processes.items ++ processes_of done;
      paths : l.self.paths ≡ l.fn.self.paths ++ paths_of l.path done;
      memories : l.self.memories ≡ l.fn.self.memories ++ memories_of l.path done;
      memory_paths : l.self.memory_paths ≡ l.fn.self.memory_paths ++ memory_paths_of l.path done;
      definitions : l.self.definitions ≡ l.fn.self.definitions ++ definitions_of done;
      names : l.self.names.items ≡ l.fn.self.names.items ++ map plain_names (leaves_of done);
      roots : l.self.roots ≡ l.fn.self.roots ++ map leaf_exprs (leaves_of done);
    }
