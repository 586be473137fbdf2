use Rattle.std.proofs.Common.{◌≡◌, ◌-◌, drop, length, Ok}
use Rattle.design_ir.specs.PoolRules.{IsPool}
use Rattle.elab_store.specs.Stores.{Stored}
use Rattle.elab_eval.specs.Elaborates.{forest_of_nodes}
use Rattle.elab_eval.specs.Standing.{IsStanding}
use Rattle.elab_eval.proofs.trees.trees_of.Given as goal

abbrev pub ghost-put_node : goal.ghost-put_node
ghost-put_node g a = g.built

-- the trees are those of what stands behind, and they stand
abbrev pub invariant-loop-i : goal.invariant-loop-i
invariant-loop-i g l =
    let s : Stored = record l.store { modules = g.built } in
    IsPool l.pool × ((forest_of_nodes s (drop (length l.nodes - l.i) l.nodes) l.initial.pool ≡ Ok (l.trees, l.pool)) × IsStanding s l.initial.pool l.pool l.trees)
