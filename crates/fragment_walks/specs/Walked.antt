-- What the walk through a module and those below it has found. (Internal: no rule of the language.)
use Rattle.std.specs.Prelude.{◌≡◌, ◌<◌, ◌^◌, map, length}
use Rattle.design_ir.specs.declared.fragment.Fragment.{Fragment}
use Rattle.fragment_walks.specs.declared.walk.Walk.{Walk}
use Rattle.fragment_walks.specs.Held.{leaf_exprs}
use Rattle.fragment_walks.specs.Names.{all_leaves}
use Rattle.fragment_walks.specs.Walks.{all_definitions, all_memories, all_memory_paths, all_paths, all_processes, plain_names}

pub record IsWalkOf (root : Fragment) (w : Walk) : Type 0 where
  pub processes : w.processes.items ≡ all_processes root
  pub paths : w.paths ≡ all_paths root
  pub memories : w.memories ≡ all_memories root
  pub memory_paths : w.memory_paths ≡ all_memory_paths root
  pub definitions : w.definitions ≡ all_definitions root
  pub names : w.names.items ≡ map plain_names (all_leaves root)
  pub roots : w.roots ≡ map leaf_exprs (all_leaves root)
  pub few : length w.processes.items < 2 ^ 32
