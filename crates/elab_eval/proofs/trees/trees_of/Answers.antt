use Rattle.std.proofs.Common.{◌≡◌, ◌-◌, ◌∙◌, sym, ap, subst, get_or, length, Ok, Err, arith}
use Rattle.std.specs.List.{list_any}
use Rattle.design_ir.specs.Forests.{Forest}
use Rattle.design_ir.specs.Pools.{Pooled}
use Rattle.elab_store.specs.Hierarchies.{Hierarchy}
use Rattle.elab_store.specs.Stores.{Stored}
use Rattle.elab_eval.specs.Elaborates.{is_open_at, forest_of_nodes}
use Rattle.elab_eval.specs.Standing.{IsStanding}
use Rattle.elab_eval.specs.Trees.{IsGot}
use Rattle.elab_eval.proofs.TreeLaws.{node_more, node_refused, nodes_none, nodes_done, none_open, read}
use Rattle.elab_eval.proofs.StandingLaws.{forest_there, none_stand, node_stands}
use Rattle.elab_eval.proofs.WrappedLaws.{wrappings_more}
use Rattle.elab_eval.proofs.trees.trees_of.Goals as goal

pub loop-i-init : goal.loop-i-init
loop-i-init g c =
    let s : Stored = record c.args.store.now { modules = g.built } in
    let q = c.args.pool.now in
    (c.known.ensures, (nodes_none s c.nodes-nodes.result.now q c.new-trees.result c.new-trees.ensures, subst (λ f. IsStanding s q q f) (sym c.new-trees.ensures) (none_stand s q c.known.ensures c.requires.1.0 c.requires.1.1.0)))

pub put_node-requires : goal.put_node-requires
put_node-requires g c =
    let s : Stored = record c.args.store.now { modules = g.built } in
    let nodes = c.nodes-nodes.result.now in
    let last = length nodes - 1 - c.loop-i.i in
    let same : nodes ≡ c.args.store.now.hierarchy.nodes = c.nodes-nodes.ensures ∙ ap (λ (h : Hierarchy). h.nodes) c.hierarchy.ensures in (
      c.requires.0,
      (
        none_open (is_open_at s) nodes last _ (ap (λ xs. list_any (is_open_at s) xs) same ∙ c.requires.1.1.1) (read nodes last _ (omega (arith, c.loop-i-test.true))),
        (wrappings_more _ _ _ c.loop-i.invariant.1.1.more c.requires.1.0.wrappings, forest_there c.loop-i.pool c.loop-i.trees c.loop-i.invariant.1.1.modules),
      ),
    )

pub loop-i-preserved : goal.loop-i-preserved
loop-i-preserved g c =
    let s : Stored = record c.args.store.now { modules = g.built } in
    let q = c.args.pool.now in
    let nodes = c.nodes-nodes.result.now in
    let behind : Forest × Pooled = (c.loop-i.trees, c.loop-i.pool) in
    let x = get_or nodes (length nodes - 1 - c.loop-i.i) _ in
    let made : Forest × Pooled = (c.in-Ok.more, c.put_node.new.pool) in (
      c.known-in-loop-i.ensures,
      (
        node_more s nodes q c.loop-i.i _ behind c.loop-i-test.true c.loop-i.invariant.1.0 ∙ c.in-Ok.ensures,
        node_stands s q c.known.ensures c.requires.1.0 c.requires.1.1.0 c.loop-i.pool x x.of c.loop-i.trees made c.loop-i.invariant.0 c.known-in-loop-i.ensures c.loop-i.invariant.1.1 c.in-Ok.ensures,
      ),
    )

pub returns-in-Err-clause-trees : goal.returns-in-Err-clause-trees
returns-in-Err-clause-trees g c =
    let s : Stored = record c.args.store.now { modules = g.built } in
    let q = c.args.pool.now in
    let nodes = c.nodes-nodes.result.now in
    let p = c.put_node.new.pool in
    let same : nodes ≡ c.args.store.now.hierarchy.nodes = c.nodes-nodes.ensures ∙ ap (λ (h : Hierarchy). h.nodes) c.hierarchy.ensures in
    subst (λ xs. IsGot (Err c.in-Err.stop) p (forest_of_nodes s xs q)) same (node_refused s nodes q p p c.loop-i.i _ c.in-Err.stop (c.loop-i.trees, c.loop-i.pool) c.loop-i-test.true c.loop-i.invariant.1.0 c.in-Err.ensures)

pub returns-clause-trees : goal.returns-clause-trees
returns-clause-trees g c =
    let s : Stored = record c.args.store.now { modules = g.built } in
    nodes_done s c.nodes-nodes.result.now c.args.store.now.hierarchy.nodes c.args.pool.now (Ok (c.loop-i.trees, c.loop-i.pool)) c.loop-i.i c.loop-i-test.false (c.nodes-nodes.ensures ∙ ap (λ (h : Hierarchy). h.nodes) c.hierarchy.ensures) c.loop-i.invariant.1.0
