use Rattle.std.proofs.Common.{◌≡◌, ◌∙◌, ◌+◌, ◌-◌, ℕ, List, sym, subst, ap, arith}
use Rattle.std.specs.List.{range_with_len}
use Rattle.design_ir.specs.Pools.{Pooled}
use Rattle.design_ir.specs.Values.{form}
use Rattle.design_ir.specs.Needed.{every, needed}
use Rattle.digraph.specs.Graphs.{Digraph}
use Rattle.comb_graph.specs.Meanings.{MeanAll}
use Rattle.comb_graph.specs.Places.{HasNode, AreBits, bit_nodes}
use Rattle.comb_graph.proofs.GraphSteps.{inside_all, node_more, whole_leads}
use Rattle.comb_graph.proofs.needs.place_whole.Goals as goal

-- the nodes of the bits, which are joined
mean : (g : Digraph) (pool : Pooled) (first e end : ℕ) (ns : List ℕ) → g.size ≡ first + (form pool e).width → end ≡ g.size → ns ≡ range_with_len first (end - first) → AreBits g pool e first
    → MeanAll g (bit_nodes pool) ns (every (form pool e) (needed pool e))
mean g pool first e end ns last is same bits =
    let f = form pool e in
    let n : end - first ≡ f.width = omega (arith, last, is) in
    let start : first + 0 ≡ first = omega arith in
    let all = whole_leads g (bit_nodes pool) first 0 f.width (needed pool e) (λ k in'. bits k (omega (arith, in'))) in
    let P : List ℕ → Type 0 = λ xs. MeanAll g (bit_nodes pool) xs (every f (needed pool e)) in
    subst P (sym (same ∙ ap (range_with_len first) n)) (subst (λ a. P (range_with_len a f.width)) start all)

pub join-requires : goal.join-requires
join-requires c =
    let g = c.args.graph.now in
    let pool = c.args.design.now.pool in
    let m = mean g pool c.args.first c.args.e.0 c.size.result c.as_slice.result.now c.requires.last c.size.ensures.value (c.as_slice.ensures ∙ c.in_ok-all.ensures) c.requires.bits in
    inside_all g (bit_nodes pool) c.as_slice.result.now (every (form pool c.args.e.0) (needed pool c.args.e.0)) m

pub returns : goal.returns
returns c =
    let g = c.args.graph.now in
    let pool = c.args.design.now.pool in
    let bits = every (form pool c.args.e.0) (needed pool c.args.e.0) in
    let m = mean g pool c.args.first c.args.e.0 c.size.result c.as_slice.result.now c.requires.last c.size.ensures.value (c.as_slice.ensures ∙ c.in_ok-all.ensures) c.requires.bits in
    subst (λ h. HasNode g h pool bits) (sym (c.in_ok-join.ensures.1)) (node_more g pool c.as_slice.result.now bits c.known.ensures (omega (arith, c.requires.last, c.requires.size)) m)
