use Rattle.std.proofs.Common.{◌≡◌, ◌<◌, length, Some, slice_get, refl, sym, ap, ◌∙◌, subst, arith}
use Rattle.std.proofs.lemmas.Option.{slice_get_read}
use Rattle.design_ir.specs.declared.fragment.Fragment.{Fragment}
use Rattle.design_ir.specs.Forests.{forest_size}
use Rattle.design_ir.specs.Fragments.{leaf_of}
use Rattle.design_ir.specs.Named.{AllBelow}
use Rattle.fragment_walks.proofs.Lists.{below_split, below_wider}
use Rattle.domain_transforms.specs.Changes.{bound, leaf_change}
use Rattle.domain_transforms.specs.Placed.{forest_exprs, fragment_exprs, leaf_exprs}
use Rattle.domain_transforms.proofs.MakingLaws.{forest_in_turn}
use Rattle.domain_transforms.proofs.PlacedLaws.{bound_grows, forest_below}
use Rattle.domain_transforms.proofs.fragments.+fragments.Goals as goal

pub changed-changed_leaf-requires-clause-there : goal.changed-changed_leaf-requires-clause-there
changed-changed_leaf-requires-clause-there t c = (below_split (bound c.args.change.now c.args.pool.now) (leaf_exprs (leaf_of c.args.module.now)) (forest_exprs c.args.module.now.submodules) c.requires.there).0

pub changed-changed_all-requires : goal.changed-changed_all-requires
changed-changed_all-requires t c =
    let n = bound c.args.change.now c.args.pool.now in
    let m = c.args.module.now in (
      omega (arith, c.decreases),
      (c.in_ok-made.ensures.ready, below_wider n (bound c.args.change.now c.changed_leaf.new.pool) (forest_exprs m.submodules) (bound_grows c.args.change.now c.args.pool.now c.changed_leaf.new.pool c.in_ok-made.ensures.more) (below_split n (leaf_exprs (leaf_of m)) (forest_exprs m.submodules) c.requires.there).1),
    )

pub changed_all-changed-requires : goal.changed_all-changed-requires
changed_all-changed-requires t c =
    let n = bound c.args.change.now c.args.pool.now in
    let items = c.as_slice-module-items.result.now in
    let i = c.loop-module.module-index in
    let item = c.module-item.result in
    let at : slice_get items i ≡ Some item = slice_get_read items (length items) i item refl c.loop-module-test.true c.module-item.is in
    let small : forest_size item.submodules < forest_size c.args.modules.now =
    subst (λ (f : Fragment). forest_size f.submodules < forest_size c.args.modules.now) (sym c.module-item.is) (c.as_slice-module-items.ensures.smaller i item c.loop-module-test.true) in
    let there = forest_below n items i item (subst (λ f. AllBelow n (forest_exprs f)) (sym c.as_slice-module-items.ensures.value) c.requires.there) at in
    (omega (arith, small, c.decreases), (c.loop-module.invariant.ready, below_wider n (bound c.args.change.now c.loop-module.pool) (fragment_exprs item) (bound_grows c.args.change.now c.args.pool.now c.loop-module.pool c.loop-module.invariant.more) there))

pub changed_all-loop-module-preserved : goal.changed_all-loop-module-preserved
changed_all-loop-module-preserved t c =
    let items = c.as_slice-module-items.result.now in
    let i = c.loop-module.module-index in
    let item = c.module-item.result in
    let at : slice_get items i ≡ Some item = slice_get_read items (length items) i item refl c.loop-module-test.true c.module-item.is in
    let new = c.changed.new.pool in
    let f = c.in_ok-changed.field-0 in
    record {
      more = omega (arith, c.loop-module.invariant.more, c.in_ok-changed.ensures.more);
      ready = c.in_ok-changed.ensures.ready;
      made = ap (λ all. (all, new)) c.in_ok-push.ensures.ok ∙ forest_in_turn (leaf_change c.args.change.now) c.args.pool.now items i item c.loop-module.all c.loop-module.pool new f at c.loop-module.invariant.made c.in_ok-changed.ensures.made;
    }
