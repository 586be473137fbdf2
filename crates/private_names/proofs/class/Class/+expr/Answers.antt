use Rattle.std.proofs.Common.{◌≡◌, ◌∙◌, ap, arith}
use Rattle.std.proofs.lemmas.Result.{IfOk-weaker}
use Rattle.py_tree.specs.Seen.{tree, kind_tree}
use Rattle.py_tree.specs.Tree.{trees, links, pairs, trailers, arguments}
use Rattle.private_names.specs.Expressions.{mangled_tree}
use Rattle.private_names.proofs.Layers.{tree_of_kind}
use Rattle.private_names.proofs.Outside.{outside}
use Rattle.private_names.proofs.Rows.{all_made, tree_within, trees_within, link_within, links_within, pair_within, pairs_within, trailer_within, trailers_within, argument_within, arguments_within}
use Rattle.private_names.proofs.class.Class.+expr.Goals as goal

pub expr-returns : goal.expr-returns
expr-returns t c =
    let class = c.args.self.now.name in
    let e = c.args.e.now in
    IfOk-weaker c.new.result _ (λ made. tree made ≡ mangled_tree class (tree e)) (λ made h. h ∙ c.in_ok-kind.ensures e.place ∙ ap (λ k. mangled_tree class (kind_tree k e.place)) c.deref.ensures ∙ ap (mangled_tree class) (tree_of_kind e)) c.new.ensures

pub expr-returns-then-is_none : goal.expr-returns-then-is_none
expr-returns-then-is_none t c =
    let class = c.args.self.now.name in
    let e = c.args.e.now in
    IfOk-weaker c.share.result _ (λ made. tree made ≡ mangled_tree class (tree e)) (λ made h. h ∙ outside class (tree e) (c.is_none.ensures.0 c.if-is_none.true)) c.share.ensures

pub exprs-returns : goal.exprs-returns
exprs-returns t c = let class = c.args.self.now.name in ap trees (all_made (tree_within class) c.as_slice-e-items.result.now c.args.all.now.items c.loop-e.e-index _ c.as_slice-e-items.ensures.value (omega (arith, c.loop-e-test.false)) c.loop-e.invariant) ∙ trees_within class c.args.all.now.items

pub links-returns : goal.links-returns
links-returns t c = let class = c.args.self.now.name in ap links (all_made (link_within class) c.as_slice-link-items.result.now c.args.all.now.items c.loop-link.link-index _ c.as_slice-link-items.ensures.value (omega (arith, c.loop-link-test.false)) c.loop-link.invariant) ∙ links_within class c.args.all.now.items

pub pairs-returns : goal.pairs-returns
pairs-returns t c = let class = c.args.self.now.name in ap pairs (all_made (pair_within class) c.as_slice-pair-items.result.now c.args.all.now.items c.loop-pair.pair-index _ c.as_slice-pair-items.ensures.value (omega (arith, c.loop-pair-test.false)) c.loop-pair.invariant) ∙ pairs_within class c.args.all.now.items

pub trailers-returns : goal.trailers-returns
trailers-returns t c = let class = c.args.self.now.name in ap trailers (all_made (trailer_within class) c.as_slice-trailer-items.result.now c.args.all.now.items c.loop-trailer.trailer-index _ c.as_slice-trailer-items.ensures.value (omega (arith, c.loop-trailer-test.false)) c.loop-trailer.invariant) ∙ trailers_within class c.args.all.now.items

pub arguments-returns : goal.arguments-returns
arguments-returns t c = let class = c.args.self.now.name in ap arguments (all_made (argument_within class) c.as_slice-argument-items.result.now c.args.all.now.items c.loop-argument.argument-index _ c.as_slice-argument-items.ensures.value (omega (arith, c.loop-argument-test.false)) c.loop-argument.invariant) ∙ arguments_within class c.args.all.now.items
