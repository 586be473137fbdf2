use Rattle.std.proofs.Common.{◌≡◌, ◌++◌, take}
use Rattle.elab_store.specs.Hierarchies.{wrapper_nodes}
use Rattle.elab_store.proofs.hierarchy.push_wrappers.Given as goal

abbrev pub invariant-loop-by : goal.invariant-loop-by
invariant-loop-by l = l.nodes.items ≡ l.initial.nodes.items ++ wrapper_nodes (take l.by-index l.bys) l.waiting
