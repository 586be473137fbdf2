use Rattle.std.proofs.Common.{◌≡◌, ◌∙◌, ap, List, arith}
use Rattle.elab_store.specs.declared.leaves.Rest.{Rest}
use Rattle.elab_store.specs.LeafWalks.{walk_leaves, walk_steps}
use Rattle.elab_store.proofs.WalkLaws.{walk_more, steps_more}
use Rattle.elab_store.proofs.components.Components.put.Goals as goal

pub returns-in_ok-push-clause-found : goal.returns-in_ok-push-clause-found
returns-in_ok-push-clause-found c =
    let sigs = c.args.self.now.signatures in
    ap (λ (rs : List Rest). walk_leaves sigs rs) c.in_ok-push.ensures.items ∙ walk_more sigs c.args.walk.now.items c.args.rest

pub returns-in_ok-push-clause-steps : goal.returns-in_ok-push-clause-steps
returns-in_ok-push-clause-steps c =
    let sigs = c.args.self.now.signatures in
    omega (arith, ap (λ (rs : List Rest). walk_steps sigs rs) c.in_ok-push.ensures.items, steps_more sigs c.args.walk.now.items c.args.rest)
