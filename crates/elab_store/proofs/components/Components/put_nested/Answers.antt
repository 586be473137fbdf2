use Rattle.std.proofs.Common.{◌≡◌, ◌∙◌, ◌++◌, [], ap, sym, List, length, arith, true, false}
use Rattle.elab_store.specs.declared.leaves.Leaf.{Leaf}
use Rattle.elab_store.specs.Leaves.{leaves_in}
use Rattle.elab_store.specs.LeafWalks.{walk_leaves, walk_steps}
use Rattle.elab_store.proofs.LeafLaws.{leaves_before, leaves_behind, in_length, cut_none}
use Rattle.elab_store.proofs.WalkLaws.{rest_whole, rest_whole_steps, none_where}
use Rattle.elab_store.proofs.components.Components.put_nested.Goals as goal
use Rattle.elab_store.proofs.components.Components.put_nested.Goals.{else-nested-before-via-then-nested-before+else-leaf_count-gt0, else-nested-before-via-else-nested-before}

pub returns-in_ok-put-clause-found : goal.returns-in_ok-put-clause-found
returns-in_ok-put-clause-found c =
    let sigs = c.args.self.now.signatures in
    let r = c.args.nested in
    c.in_ok-put.ensures.found ∙ ap (λ (ls : List Leaf). ls ++ walk_leaves sigs c.args.walk.now.items)
    (rest_whole sigs r c.requires ∙ sym (leaves_before c.args.before sigs r.turned r.prefix r.signature (omega (arith, c.if-nested-before.true))))

pub returns-in_ok-put-clause-steps : goal.returns-in_ok-put-clause-steps
returns-in_ok-put-clause-steps c =
    omega (arith, c.in_ok-put.ensures.steps, rest_whole_steps c.args.self.now.signatures c.args.before c.args.nested c.requires (omega (arith, c.if-nested-before.true)))

pub returns-else-nested-before-clause-found : goal.returns-else-nested-before-clause-found
returns-else-nested-before-clause-found c =
    let sigs = c.args.self.now.signatures in
    let r = c.args.nested in
    let none : leaves_in c.args.before sigs r.turned r.prefix r.signature ≡ [] = elim c.else-nested-before.branch [
      | else-nested-before-via-then-nested-before+else-leaf_count-gt0 w ↦ leaves_before c.args.before sigs r.turned r.prefix r.signature (omega (arith, w.if-nested-before.true))
          ∙ none_where sigs r.turned r.prefix r.signature (omega (arith, w.leaf_count.ensures, w.if-leaf_count-gt0.false))
      | else-nested-before-via-else-nested-before w ↦ leaves_behind c.args.before sigs r.turned r.prefix r.signature (omega (arith, w.if-nested-before.false))
    ] in
    ap (λ (ls : List Leaf). ls ++ walk_leaves sigs c.args.walk.now.items) (sym none)
