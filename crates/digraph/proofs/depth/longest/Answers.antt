use Rattle.std.proofs.Common.{◌≡◌, ◌∙◌, ◌+◌, cond, max, length, sym, subst, ap, arith, take, Some, slice_get, slice_set, slice_index_or}
use Rattle.std.proofs.lemmas.Option.{slice_get-get_or}
use Rattle.digraph.specs.Depths.{is_counted, AreDepths, IsDeepest}
use Rattle.digraph.proofs.DepthLaws.{depth_upto, depths_more, depths_none, most_of}
use Rattle.digraph.proofs.Takes.{take_end}
use Rattle.digraph.proofs.depth.longest.Goals as goal

pub loop-node-init : goal.loop-node-init
loop-node-init c =
    let size : length c.in_ok-depths.depths.items ≡ c.args.graph.now.size = omega (arith, c.in_ok-depths.ensures.len, c.in_ok-depths.depths.ok, c.size.ensures.value) in
    record { depths = depths_none c.args.graph.now c.args.counted.now c.in_ok-depths.depths.items size; small = omega arith }

pub overflow_add-depth : goal.overflow_add-depth
overflow_add-depth c =
    let g = c.args.graph.now in
    let items = c.as_slice-node-items.result.now in
    let i = c.loop-node.node-index in
    let node = slice_index_or items i 0 in
    let same : items ≡ c.args.order.now = c.as_slice-node-items.ensures in
    let at : slice_get items i ≡ Some node = slice_get-get_or items i 0 c.loop-node-test.true in
    let at' = subst (λ ns. slice_get ns i ≡ Some node) same at in
    let depths = subst (λ ns. AreDepths g c.args.counted.now (take i ns) c.loop-node.depths.items c.loop-node.longest) same c.loop-node.invariant.depths in
    let deepest = subst (λ ns. IsDeepest g ns node c.deepest-below.result) c.deref.ensures.value c.deepest-below.ensures in
    let small = depth_upto g c.args.counted.now c.args.order.now i node c.loop-node.depths.items c.loop-node.longest c.deepest-below.result c.requires.sorted at' depths deepest in
    omega (arith, small, c.weight.ensures, c.loop-node.invariant.small)

pub loop-node-preserved : goal.loop-node-preserved
loop-node-preserved c =
    let g = c.args.graph.now in
    let counted = c.args.counted.now in
    let order = c.args.order.now in
    let items = c.as_slice-node-items.result.now in
    let i = c.loop-node.node-index in
    let was = c.loop-node.depths.items in
    let longest = c.loop-node.longest in
    let node = slice_index_or items i 0 in
    let below = c.deepest-below.result in
    let depth = below + cond (is_counted counted node) 1 0 in
    let same : items ≡ order = c.as_slice-node-items.ensures in
    let at : slice_get items i ≡ Some node = slice_get-get_or items i 0 c.loop-node-test.true in
    let at' = subst (λ ns. slice_get ns i ≡ Some node) same at in
    let depths = subst (λ ns. AreDepths g counted (take i ns) was longest) same c.loop-node.invariant.depths in
    let deepest = subst (λ ns. IsDeepest g ns node below) c.deref.ensures.value c.deepest-below.ensures in
    let small = depth_upto g counted order i node was longest below c.requires.sorted at' depths deepest in
    let more = depths_more g counted order i node was longest below c.requires.sorted at' depths deepest in
    let more' = subst (λ ns. AreDepths g counted (take (i + 1) ns) (slice_set was node depth) (max longest depth)) (sym same) more in
    let weight : below + c.weight.result ≡ depth = ap (λ w. below + w) c.weight.ensures in
    let top : c.greater-longest.result ≡ max longest depth = c.greater-longest.ensures ∙ ap (λ d. max longest d) weight in
    record {
      depths = subst (λ d. AreDepths g counted (take (i + 1) items) (slice_set was node d) c.greater-longest.result) (sym weight)
          (subst (AreDepths g counted (take (i + 1) items) (slice_set was node depth)) (sym top) more');
      small = omega (arith, top, small, c.loop-node.invariant.small);
    }

pub returns : goal.returns
returns c =
    let g = c.args.graph.now in
    let counted = c.args.counted.now in
    let items = c.as_slice-node-items.result.now in
    let end : c.loop-node.node-index ≡ length items = omega (arith, c.loop-node-test.false, c.loop-node.auto.node-index-end) in
    let all = take_end items c.loop-node.node-index end ∙ c.as_slice-node-items.ensures in
    let depths = subst (λ ns. AreDepths g counted ns c.loop-node.depths.items c.loop-node.longest) all c.loop-node.invariant.depths in
    most_of g counted c.args.order.now c.loop-node.depths.items c.loop-node.longest c.requires.sorted c.requires.few depths
