use Rattle.std.proofs.Common.{◌≡◌, drop}
use Rattle.std.specs.List.{list_any}
use Rattle.elab_store.specs.Stores.{Stored}
use Rattle.elab_eval.specs.Elaborates.{is_open_at}
use Rattle.elab_eval.proofs.trees.is_node_open.Given as goal

abbrev pub ghost-is_open_in : goal.ghost-is_open_in
ghost-is_open_in g a = g.built

abbrev pub invariant-loop-node : goal.invariant-loop-node
invariant-loop-node g l =
    let s : Stored = record l.store { modules = g.built } in list_any (is_open_at s) (drop l.node-index l.nodes) ≡ list_any (is_open_at s) l.nodes
