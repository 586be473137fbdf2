use Rattle.std.proofs.Common.{◌≡◌, ◌∙◌, ◌<◌, length, take, Some, slice_get, refl, ap, sym, subst, arith}
use Rattle.std.proofs.lemmas.Option.{slice_get_read}
use Rattle.design_ir.specs.declared.fragment.Fragment.{Fragment}
use Rattle.design_ir.specs.Forests.{forest_size}
use Rattle.design_ir.specs.Fragments.{leaf_of, forest_of}
use Rattle.design_ir.specs.Named.{AllBelow}
use Rattle.fragment_walks.specs.Marks.{marked, numbers}
use Rattle.fragment_walks.proofs.Lists.{below_split}
use Rattle.domain_transforms.specs.Placed.{forest_exprs, fragment_exprs, leaf_exprs}
use Rattle.domain_transforms.proofs.PlacedLaws.{forest_below}
use Rattle.domain_transforms.proofs.RootLaws.{forest_turn, marked_both, same_length}
use Rattle.domain_transforms.proofs.roots.+fragment_roots.Goals as goal

pub mark_fragment-mark_leaf-requires : goal.mark_fragment-mark_leaf-requires
mark_fragment-mark_leaf-requires t c = (below_split (length c.args.marks.now.items) (leaf_exprs (leaf_of c.args.module.now)) (forest_exprs c.args.module.now.submodules) c.requires).0

pub mark_fragment-mark_all-requires : goal.mark_fragment-mark_all-requires
mark_fragment-mark_all-requires t c =
    let m = c.args.module.now in
    let old = c.args.marks.now.items in
    let there = (below_split (length old) (leaf_exprs (leaf_of m)) (forest_exprs m.submodules) c.requires).1 in
    (omega (arith, c.decreases), subst (λ n. AllBelow n (forest_exprs m.submodules)) (sym (same_length (leaf_exprs (leaf_of m)) old c.mark_leaf.new.marks.items c.mark_leaf.ensures)) there)

pub mark_fragment-returns : goal.mark_fragment-returns
mark_fragment-returns t c =
    let m = c.args.module.now in
    c.mark_all.ensures ∙ ap (marked (numbers (forest_exprs m.submodules))) c.mark_leaf.ensures ∙ marked_both (leaf_exprs (leaf_of m)) (forest_exprs m.submodules) c.args.marks.now.items

pub mark_all-mark_fragment-requires : goal.mark_all-mark_fragment-requires
mark_all-mark_fragment-requires t c =
    let old = c.args.marks.now.items in
    let items = c.as_slice-module-items.result.now in
    let i = c.loop-module.module-index in
    let item = c.module-item.result in
    let at : slice_get items i ≡ Some item = slice_get_read items (length items) i item refl c.loop-module-test.true c.module-item.is in
    let small : forest_size item.submodules < forest_size c.args.modules.now =
    subst (λ (f : Fragment). forest_size f.submodules < forest_size c.args.modules.now) (sym c.module-item.is) (c.as_slice-module-items.ensures.smaller i item c.loop-module-test.true) in
    let there = forest_below (length old) items i item (subst (λ f. AllBelow (length old) (forest_exprs f)) (sym c.as_slice-module-items.ensures.value) c.requires) at in
    (omega (arith, small, c.decreases), subst (λ n. AllBelow n (fragment_exprs item)) (sym (same_length (forest_exprs (forest_of (take i items))) old c.loop-module.marks.items c.loop-module.invariant)) there)

pub mark_all-loop-module-preserved : goal.mark_all-loop-module-preserved
mark_all-loop-module-preserved t c =
    let items = c.as_slice-module-items.result.now in
    let i = c.loop-module.module-index in
    let item = c.module-item.result in
    let at : slice_get items i ≡ Some item = slice_get_read items (length items) i item refl c.loop-module-test.true c.module-item.is in
    forest_turn items i item c.args.marks.now.items c.loop-module.marks.items c.mark_fragment.new.marks.items at c.loop-module.invariant c.mark_fragment.ensures
